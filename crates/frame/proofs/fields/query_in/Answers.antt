use Rattle.std.proofs.Common.{Ok, Err, ◌∙◌, refl, sym}
use Rattle.theory.specs.Logic.{unless◌answer◌then◌}
use Rattle.theory.proofs.Ladder.{ladder, pass, told-true}
use Rattle.theory.proofs.Refused.{two-steps, left_with, went_with}
use Rattle.protocol.specs.declared.Refusal.TheVariants.{BadField}
use Rattle.protocol.specs.declared.ReadOp.TheVariants.{QueryObject}
use Rattle.frame.specs.declared.Ask.TheVariants.{Read}
use Rattle.frame.specs.Fields.{flags_valid, query_in}
use Rattle.frame.proofs.fields.query_in.Goals as goal

pub returns-in_err-id : goal.returns-in_err-id
unfolding query_in
returns-in_err-id c = left_with _ _ _ _ c.id_in.ensures _ c.in_err-id.was _ c.from_residual.ensures.1 _ ∙ sym (two-steps _ _ _ _)

pub returns-then-not-flags_valid : goal.returns-then-not-flags_valid
unfolding query_in
returns-then-not-flags_valid c = search ladder

pub returns : goal.returns
unfolding query_in
returns c =
    pass _ _ _ _ (told-true _ _ c.flags_valid.ensures c.if-not-flags_valid.false) refl
    ∙ went_with _ _ _ _ c.id_in.ensures _ c.in_ok-id.was
    (λ i. unless flags_valid c.args.d.now answer Err BadField then Ok (Read c.args.m (QueryObject i)))
    ∙ sym (two-steps _ _ _ _)
