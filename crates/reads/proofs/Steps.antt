-- `search steps` closes each return of a command that reads: what the lookup found, then a ladder of refusals, then
-- what is found; and what is read through a get object, behind the `?` that asks for one. Assumes nothing.
use Rattle.std.specs.Prelude.{Result, Ok, Err, ⊤, Option, Some, None}
use Rattle.std.specs.Result.{IsErrAnd}
use Rattle.std.proofs.lemmas.Result.{err_from_is_err_and}
use mathlib.Core.Path.{◌≡◌, ap, sym, ◌∙◌}
use mathlib.Core.List.{List}
use Prim.Native.Nat.{ℕ}
use Rattle.theory.specs.Logic.{unless◌answer◌then◌}
use Rattle.theory.proofs.Ladder.{ladder}
use Rattle.protocol.specs.declared.Body.{Body}
use Rattle.protocol.specs.declared.Metadata.{Metadata}
use Rattle.protocol.specs.declared.ObjectKind.{ObjectKind}
use Rattle.protocol.specs.declared.ObjectKind.TheVariants.{Get, Set}
use Rattle.protocol.specs.declared.Refusal.{Refusal}
use Rattle.protocol.specs.declared.Refusal.TheVariants.{NotLive, WrongKind}
use Rattle.protocol.specs.Answers.{is_get}
use Rattle.protocol.proofs.Operations.{kind-get, kind-not-get}
use Rattle.objects.specs.Objects.{on_found}
use Rattle.member.proofs.Objects.{on-live, on-nothing}
use Rattle.member.specs.declared.Member.{Member}
use Rattle.member.specs.Objects.{lookup_of}
use Rattle.reads.specs.Reads.{metadata_of, through_get, selected_of}

-- what is left or done behind the `?`, for an object of kind k that the lookup found
refused : {A : Type 0} (k : ObjectKind) (d : Refusal) (rest : Result A Refusal)
    → ◌≡◌ {A = Result ⊤ Refusal} (Err d) (unless is_get k answer Err WrongKind then Ok tt)
    → ◌≡◌ {A = Result A Refusal} (Err d) (unless is_get k answer Err WrongKind then rest)
unfolding unless◌answer◌then◌
refused Get d rest h = cc
refused Set d rest h = cc

passed : {A : Type 0} (k : ObjectKind) (y : ⊤) (rest : Result A Refusal)
    → ◌≡◌ {A = Result ⊤ Refusal} (Ok y) (unless is_get k answer Err WrongKind then Ok tt)
    → rest ≡ (unless is_get k answer Err WrongKind then rest)
unfolding unless◌answer◌then◌
passed Get y rest h = cc
passed Set y rest h = cc

module _ {A : Type 0} (id : ℕ) (m : Member) (x : Option ObjectKind) (f : x ≡ lookup_of m id) where
  -- no object
  pub get-none : x ≡ None → (o : Result A Refusal) → o ≡ Err NotLive → (rest : Result A Refusal) → o ≡ through_get id m rest
  unfolding through_get
  get-none n o h rest = on-nothing m id _ _ o x f n h

  module _ (k : ObjectKind) (n : x ≡ Some k) (r : Result ⊤ Refusal) (e : r ≡ (unless is_get k answer Err WrongKind then Ok tt)) where
    pub get-left : (d : Refusal) → r ≡ Err d → (o : Result A Refusal) → IsErrAnd o (λ y. y ≡ d) → (rest : Result A Refusal) → o ≡ through_get id m rest
    unfolding through_get
    get-left d h o i rest =
        let p = err_from_is_err_and o i in
        on-live m id _ _ o x f k n (rw (p.1, p.2) (refused k d rest (sym h ∙ e)))

    pub get-went : (y : ⊤) → r ≡ Ok y → (o rest : Result A Refusal) → o ≡ rest → o ≡ through_get id m rest
    unfolding through_get
    get-went y h o rest q = on-live m id _ _ o x f k n (q ∙ passed k y rest (sym h ∙ e))

-- q is the member's queue count
module _ (id : ℕ) (m : Member) (q : ℕ) (e : q ≡ m.queues) (o : Result Body Refusal) where
  pub metadata-by : (what : Metadata) → o ≡ through_get id m (Ok (metadata_of q what)) → o ≡ through_get id m (Ok (metadata_of m.queues what))
  metadata-by what h = h ∙ ap (λ k. through_get id m (Ok (metadata_of k what))) e

  pub selected-by : (list : List ℕ) → o ≡ through_get id m (selected_of q list) → o ≡ through_get id m (selected_of m.queues list)
  selected-by list h = h ∙ ap (λ k. through_get id m (selected_of k list)) e

pub ruleset steps = (ladder, on-live, on-nothing, kind-get, kind-not-get)
