-- Each return is a step of the definition.
use Rattle.std.proofs.Common.{◌≡◌, ◌+◌, ◌-◌, length, take, drop, arith}
use Rattle.theory.proofs.Bytes.{length-bytes_at}
use Rattle.theory.proofs.Ladder.{ladder}
use Rattle.parts.specs.List.{step_at}
use Rattle.parts.proofs.Walk.{header_is}
use Rattle.parts.proofs.part_at.Goals as goal

pub returns-then-list-at-lt-HEADER_SIZE : goal.returns-then-list-at-lt-HEADER_SIZE
unfolding step_at
returns-then-list-at-lt-HEADER_SIZE c = record { step = search ladder; value = tt }

pub returns-then-list-start : goal.returns-then-list-start
unfolding step_at
returns-then-list-start c = record { step = search ladder; value = tt }

pub returns : goal.returns
unfolding step_at
returns c =
    let start = c.args.at + 16 in
    let n = c.value_size-len.result in
    let cut : start + n - start ≡ n = omega arith in
    let size : length (take n (drop start c.args.list.now)) ≡ n = length-bytes_at start n c.args.list.now (omega arith) in
    record { step = rw (cut, size) (search (ladder, header_is)); value = rw (cut, size) }
