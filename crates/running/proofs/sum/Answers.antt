-- `running::sum` meets its contract. Assumes nothing.
use Rattle.running.proofs.Summing.{left_ready, right_ready, sum_ready, sum_becomes}
use Rattle.running.proofs.sum.Goals as goal

pub read_number-x-requires : goal.read_number-x-requires
read_number-x-requires c = search left_ready

pub read_number-y-requires : goal.read_number-y-requires
read_number-y-requires c = search right_ready

pub become_single-requires : goal.become_single-requires
become_single-requires c = sum_ready c.requires c.add_held-z.ensures

pub returns : goal.returns
returns c =
    sum_becomes c.requires c.read_number-x.ensures c.read_number-y.ensures
    (rw c.half_of.ensures at c.add_held-z.ensures) c.become_single.ensures
