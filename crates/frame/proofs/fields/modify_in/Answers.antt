use Rattle.std.proofs.Common.{Ok}
use Rattle.theory.proofs.Refused.{left_with, went_with}
use Rattle.protocol.specs.declared.ChangeOp.TheVariants.{Modify}
use Rattle.frame.specs.declared.Ask.TheVariants.{Change}
use Rattle.frame.specs.Fields.{modify_in}
use Rattle.frame.proofs.fields.modify_in.Goals as goal

pub returns-in_err-id : goal.returns-in_err-id
unfolding modify_in
returns-in_err-id c = left_with _ _ _ _ c.id_and_kind_in.ensures _ c.in_err-id.was _ c.from_residual.ensures.1 _

pub returns : goal.returns
unfolding modify_in
returns c = went_with _ _ _ _ c.id_and_kind_in.ensures _ c.in_ok-id.was (λ p. Ok (Change c.args.m (Modify p.0 p.1)))
