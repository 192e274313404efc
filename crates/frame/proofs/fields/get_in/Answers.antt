use Rattle.std.proofs.Common.{ℕ, List, Result, Ok, Err, ◌∙◌, ◌≡◌, eqb, leb, get_or, length}
use Rattle.theory.specs.Logic.{when◌then◌else◌, unless◌answer◌then◌, ◌and◌}
use Rattle.theory.proofs.Ladder.{ladder}
use Rattle.theory.proofs.Refused.{left_with, went_with}
use Rattle.protocol.specs.declared.Refusal.{Refusal}
use Rattle.protocol.specs.declared.Refusal.TheVariants.{BadField}
use Rattle.protocol.specs.declared.ReadOp.TheVariants.{GetSelected, GetAll}
use Rattle.frame.specs.declared.Ask.{Ask}
use Rattle.frame.specs.declared.Ask.TheVariants.{Read}
use Rattle.frame.specs.Frame.{type_at, headers_at}
use Rattle.frame.specs.Fields.{get_in}
use Rattle.frame.proofs.fields.get_in.Goals as goal

-- what is asked through the object of an id
by_type : ℕ → List ℕ → ℕ → Result Ask Refusal
by_type m d i =
    when eqb (get_or d type_at 0) 0 then Ok (Read m (GetSelected i)) else
    unless eqb (get_or d type_at 0) 1 and leb (length d) headers_at answer Err BadField then
    Ok (Read m (GetAll i))

pub returns-in_err-id : goal.returns-in_err-id
unfolding get_in
returns-in_err-id c = left_with _ _ _ _ c.id_in.ensures _ c.in_err-id.was _ c.from_residual.ensures.1 _

pub returns-then-d-eq0 : goal.returns-then-d-eq0
unfolding get_in by_type
returns-then-d-eq0 c =
    let h : Ok (Read c.args.m (GetSelected c.in_ok-id.id)) ≡ by_type c.args.m c.args.d.now c.in_ok-id.id = search ladder in
    h ∙ went_with _ _ _ _ c.id_in.ensures _ c.in_ok-id.was (by_type c.args.m c.args.d.now)

pub returns-then-d-ne1 : goal.returns-then-d-ne1
unfolding get_in by_type
returns-then-d-ne1 c =
    let h : Err BadField ≡ by_type c.args.m c.args.d.now c.in_ok-id.id = search ladder in
    h ∙ went_with _ _ _ _ c.id_in.ensures _ c.in_ok-id.was (by_type c.args.m c.args.d.now)

pub returns-then-d-gt-HEADERS_AT : goal.returns-then-d-gt-HEADERS_AT
unfolding get_in by_type
returns-then-d-gt-HEADERS_AT c =
    let h : Err BadField ≡ by_type c.args.m c.args.d.now c.in_ok-id.id = search ladder in
    h ∙ went_with _ _ _ _ c.id_in.ensures _ c.in_ok-id.was (by_type c.args.m c.args.d.now)

pub returns : goal.returns
unfolding get_in by_type
returns c =
    let h : Ok (Read c.args.m (GetAll c.in_ok-id.id)) ≡ by_type c.args.m c.args.d.now c.in_ok-id.id = search ladder in
    h ∙ went_with _ _ _ _ c.id_in.ensures _ c.in_ok-id.was (by_type c.args.m c.args.d.now)
