use Rattle.std.proofs.Common.{Ok, Err, ◌∙◌, sym, ap, leb, get_or}
use Rattle.theory.specs.Logic.{unless◌answer◌then◌}
use Rattle.theory.proofs.Ladder.{ladder, pass}
use Rattle.theory.proofs.Refused.{two-steps, left_with, went_with}
use Rattle.protocol.specs.declared.Refusal.TheVariants.{BadField}
use Rattle.protocol.specs.declared.ReadOp.TheVariants.{GetMetadata}
use Rattle.frame.specs.declared.Ask.TheVariants.{Read}
use Rattle.frame.specs.Frame.{type_at}
use Rattle.frame.specs.Fields.{metadata_is, metadata_in}
use Rattle.frame.proofs.fields.metadata_in.Goals as goal

pub returns-in_err-id : goal.returns-in_err-id
unfolding metadata_in
returns-in_err-id c = left_with _ _ _ _ c.id_in.ensures _ c.in_err-id.was _ c.from_residual.ensures.1 _ ∙ sym (two-steps _ _ _ _)

pub returns-then-d-gt2 : goal.returns-then-d-gt2
unfolding metadata_in
returns-then-d-gt2 c = search ladder

pub returns : goal.returns
unfolding metadata_in
returns c =
    let b = get_or c.args.d.now type_at 0 in
    pass (leb b 2) _ _ _ (search ladder) (ap (λ w. Ok (Read c.args.m (GetMetadata c.in_ok-id.id w))) c.metadata_is.ensures)
    ∙ went_with _ _ _ _ c.id_in.ensures _ c.in_ok-id.was
    (λ i. unless leb b 2 answer Err BadField then Ok (Read c.args.m (GetMetadata i (metadata_is b))))
    ∙ sym (two-steps _ _ _ _)
