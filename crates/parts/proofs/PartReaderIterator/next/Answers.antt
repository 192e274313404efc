-- What stands at the position is the first of the parts left.
use Rattle.std.proofs.Common.{refl, arith, rules}
use Rattle.parts.proofs.PartReaderIterator.next.Goals as goal
use Rattle.parts.proofs.Reader.{no_step, ended, cut_off, taken, lies, end-fits}

pub returns-then-self-clause-steps : goal.returns-then-self-clause-steps
returns-then-self-clause-steps c =
    let e = ended _ _ _ c.if-self.true in
    record { step = no_step _ _ _ c.if-self.true; first = (e, e); moves = tt }

pub returns-in_default-clause-steps : goal.returns-in_default-clause-steps
returns-in_default-clause-steps c = record {
  step = c.in_default.ensures.step;
  first = (cut_off _ _ _ c.in_default.ensures, ended _ _ _ (omega arith));
  moves = tt;
}

pub overflow_add-self : goal.overflow_add-self
overflow_add-self c = search (rules, end-fits)

pub returns-clause-steps : goal.returns-clause-steps
returns-clause-steps c =
    let h = c.in-Ok.ensures in
    let w = lies _ _ _ c.in-Ok.part h in
    record { step = h.step; first = taken _ _ _ c.in-Ok.part h; moves = (w.starts, refl) }

pub returns-clause-goes : goal.returns-clause-goes
returns-clause-goes c = let w = lies _ _ _ c.in-Ok.part c.in-Ok.ensures in search rules
