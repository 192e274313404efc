use borrow.Author.Rules.{rules}
use Rattle.member.specs.Record.{member_of}
use Rattle.member.proofs.Sound.{bad-vectors, all-low, bad-front, bad-queues, bad-held, limits-last}
use Rattle.member.proofs.is_sound_record.Goals as goal

pub returns-then-not-kept-low : goal.returns-then-not-kept-low
returns-then-not-kept-low c = search (rules, bad-vectors)

pub returns-then-read_u16-gt-HELD_MOST : goal.returns-then-read_u16-gt-HELD_MOST
returns-then-read_u16-gt-HELD_MOST c = search (rules, bad-held)

pub returns-then-not-are_queues_allowed : goal.returns-then-not-are_queues_allowed
unfolding member_of
returns-then-not-are_queues_allowed c =
    let e = (rw c.values_of.ensures at c.are_queues_allowed.ensures) in search (rules, bad-queues)

pub returns-then-not-is_front_sound : goal.returns-then-not-is_front_sound
returns-then-not-is_front_sound c = search (rules, bad-front)

pub is_within_limits-requires : goal.is_within_limits-requires
is_within_limits-requires c = search (rules, all-low)

pub returns : goal.returns
unfolding member_of
returns c = let e = (rw c.values_of.ensures at c.are_queues_allowed.ensures) in search (rules, limits-last)
