use Rattle.std.proofs.Common.{Ok}
use Rattle.theory.proofs.Refused.{left_with, went_with}
use Rattle.protocol.specs.declared.ChangeOp.TheVariants.{Create}
use Rattle.frame.specs.declared.Ask.TheVariants.{Change}
use Rattle.frame.specs.Fields.{create_in}
use Rattle.frame.proofs.fields.create_in.Goals as goal

pub returns-in_err-id : goal.returns-in_err-id
unfolding create_in
returns-in_err-id c = left_with _ _ _ _ c.id_and_kind_in.ensures _ c.in_err-id.was _ c.from_residual.ensures.1 _

pub returns : goal.returns
unfolding create_in
returns c = went_with _ _ _ _ c.id_and_kind_in.ensures _ c.in_ok-id.was (λ p. Ok (Change c.args.m (Create p.0 p.1)))
