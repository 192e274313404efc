use borrow.Author.Rules.{rules}
use Rattle.theory.proofs.Ladder.{ladder}
use Rattle.member.specs.Sound.{sound_front}
use Rattle.member.proofs.Sound.{front-unmarked, front-marked}
use Rattle.member.proofs.fields.is_front_sound.Goals as goal

pub returns-then-bytes-lt1 : goal.returns-then-bytes-lt1
unfolding sound_front
returns-then-bytes-lt1 c = search ladder

pub returns-then-bytes-gt4 : goal.returns-then-bytes-gt4
unfolding sound_front
returns-then-bytes-gt4 c = search ladder

pub returns-then-read_u16-le1 : goal.returns-then-read_u16-le1
returns-then-read_u16-le1 c = search (rules, front-unmarked)

pub returns : goal.returns
returns c = search (rules, front-marked)
