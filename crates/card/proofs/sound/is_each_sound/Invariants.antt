-- The invariant: what is left of the members decides.
use Rattle.card.proofs.ReadLaws.{Checked}
use Rattle.card.proofs.sound.is_each_sound.Given as goal

abbrev pub invariant-loop-m : goal.invariant-loop-m
invariant-loop-m l = Checked l.card l.m l.at

abbrev pub decreases-loop-m : goal.decreases-loop-m
decreases-loop-m l = l.m
