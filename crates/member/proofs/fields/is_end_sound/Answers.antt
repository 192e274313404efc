-- Each return is a step of the test.
use Rattle.theory.proofs.Ladder.{ladder}
use Rattle.member.specs.Sound.{sound_end}
use Rattle.member.proofs.fields.is_end_sound.Goals as goal

pub returns-then-bytes-ne1 : goal.returns-then-bytes-ne1
unfolding sound_end
returns-then-bytes-ne1 c = search ladder

pub returns-then-bytes-ne1-2 : goal.returns-then-bytes-ne1-2
unfolding sound_end
returns-then-bytes-ne1-2 c = search ladder

pub returns-then-read_u16-ne0 : goal.returns-then-read_u16-ne0
unfolding sound_end
returns-then-read_u16-ne0 c = search ladder

pub returns : goal.returns
unfolding sound_end
returns c = let e = (rw c.object_bytes_of.ensures at c.are_up_to.ensures) in search ladder depth 9
