use Rattle.std.proofs.Common.{Ok}
use Rattle.theory.proofs.Refused.{left_with, went_with}
use Rattle.protocol.specs.declared.ChangeOp.TheVariants.{SetParts}
use Rattle.frame.specs.declared.Ask.TheVariants.{Change}
use Rattle.frame.specs.Fields.{set_in}
use Rattle.frame.proofs.fields.set_in.Goals as goal

pub returns-in_err-id : goal.returns-in_err-id
unfolding set_in
returns-in_err-id c = left_with _ _ _ _ c.id_in.ensures _ c.in_err-id.was _ c.from_residual.ensures.1 _

pub returns : goal.returns
unfolding set_in
returns c = went_with _ _ _ _ c.id_in.ensures _ c.in_ok-id.was (λ i. Ok (Change c.args.m (SetParts i)))
