use native.Mathlib.Omega.{arith}
use borrow.Author.Rules.{rules}
use Rattle.inventory.proofs.Plain.{plain-allowed}
use Rattle.inventory.proofs.are_queues_allowed.Goals as goal

pub returns-then-doubts-eq0 : goal.returns-then-doubts-eq0
returns-then-doubts-eq0 c = let enough = plain-allowed c.args.values.now (λ i. omega (arith, c.type_inv.values i)) in
    search (rules, enough)
