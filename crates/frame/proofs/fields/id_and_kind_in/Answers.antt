use Rattle.std.proofs.Common.{Ok, Err, ◌∙◌, sym, ap, leb, get_or}
use Rattle.theory.specs.Logic.{unless◌answer◌then◌}
use Rattle.theory.proofs.Ladder.{ladder, pass, told-true}
use Rattle.theory.proofs.Refused.{two-steps, left_with, went_with}
use Rattle.protocol.specs.declared.Refusal.TheVariants.{BadField}
use Rattle.frame.specs.Frame.{kind_at}
use Rattle.frame.specs.Fields.{flags_valid, kind_valid, kind_in}
use Rattle.frame.proofs.fields.id_and_kind_in.Goals as goal

pub returns-in_err-id : goal.returns-in_err-id
unfolding kind_valid
returns-in_err-id c =
    left_with _ _ _ _ c.id_in.ensures _ c.in_err-id.was _ c.from_residual.ensures.1 _ ∙ sym (two-steps _ _ _ _) ∙ sym (two-steps _ _ _ _)

pub returns-then-not-flags_valid : goal.returns-then-not-flags_valid
unfolding kind_valid
returns-then-not-flags_valid c = search ladder

pub returns-then-d-gt1 : goal.returns-then-d-gt1
unfolding kind_valid
returns-then-d-gt1 c = search ladder

pub returns : goal.returns
unfolding kind_valid
returns c =
    let d = c.args.d.now in
    let b = get_or d kind_at 0 in
    pass (flags_valid d) _ _ _ (told-true _ _ c.flags_valid.ensures c.if-not-flags_valid.false)
    (pass (leb b 1) _ _ _ (search ladder) (ap (λ k. Ok (c.in_ok-id.id, k)) c.kind_in.ensures))
    ∙ went_with _ _ _ _ c.id_in.ensures _ c.in_ok-id.was
    (λ i. unless flags_valid d answer Err BadField then unless leb b 1 answer Err BadField then Ok (i, kind_in b))
    ∙ sym (two-steps _ _ _ _) ∙ sym (two-steps _ _ _ _)
