-- What is known of a request by what it asks: whom it names, and that its fields are in range. Isolation and soundness
-- start from here. Assumes nothing.
use Rattle.std.specs.Prelude.{Result, Ok, Err}
use mathlib.Core.Path.{◌≡◌, refl}
use mathlib.Core.Bool.{Bool, true, false, not}
use mathlib.Core.List.{List}
use Prim.Native.Nat.{ℕ, ◌≤◌, ◌<◌}
use borrow.Author.Tests.{ltb-true, eqb-true, eqb-false, not-true}
use lib.Dec.{eqb, lit<}
use lib.ListN.{length}
use Rattle.theory.specs.Logic.{when◌then◌else◌, unless◌answer◌then◌, within}
use Rattle.theory.proofs.Tests.{if-cases, unless-cases, both, either, below, within_low, within-high, tests}
use Rattle.protocol.specs.declared.Refusal.{Refusal}
use Rattle.protocol.specs.declared.ReadOp.{ReadOp}
use Rattle.protocol.specs.declared.ReadOp.TheVariants.{QueryObject, GetMetadata, GetSelected, GetAll}
use Rattle.protocol.specs.Opcodes.{supported, supported_only, names_member}
use Rattle.protocol.proofs.Operations.{IdBelow}
use Rattle.frame.proofs.Steps.{names-one}
use Rattle.frame.specs.declared.Ask.{Ask}
use Rattle.frame.specs.declared.Ask.TheVariants.{QueryList, UseList, Read, Change}
use Rattle.frame.specs.Frame.{data_at, longest, opcode_of, group_of, target_of, data_of}
use Rattle.frame.specs.Fields.{id_of, object_valid, kind_valid, create_in, modify_in, query_in, destroy_in, metadata_in, get_in, set_in, mode_in, use_in, fields_of}
use Rattle.frame.specs.Ask.{usable, reaches, attended, framed_of, ask_of}

-- the object id in an operation is below ids
abbrev pub ReadBelow : ℕ → ReadOp → Type 0
ReadBelow ids (QueryObject id) = id < ids
ReadBelow ids (GetMetadata id what) = id < ids
ReadBelow ids (GetSelected id) = id < ids
ReadBelow ids (GetAll id) = id < ids

-- the request names m (01's term), SPEC 8.2, and m is a member of the card that is not marked
pub record Named (members : ℕ) (marked : Bool) (r : List ℕ) (m : ℕ) : Type 0 where
  pub long : data_at ≤ length r
  pub short : length r ≤ longest
  pub group : group_of r ≡ 1
  pub opcode : names_member (opcode_of r) ≡ true
  pub target : target_of r ≡ m
  pub low : 1 ≤ m
  pub high : m ≤ members
  pub unmarked : marked ≡ false

-- what each thing that is asked says of the request
abbrev pub Facts : ℕ → ℕ → Bool → List ℕ → Result Ask Refusal → Type 0
Facts members ids marked r (Err a) = Unit {0}
Facts members ids marked r (Ok QueryList) = names_member (opcode_of r) ≡ false
Facts members ids marked r (Ok (UseList mask)) = (names_member (opcode_of r) ≡ false) × (supported_only mask ≡ true)
Facts members ids marked r (Ok (Read m op)) = Named members marked r m × ReadBelow ids op
Facts members ids marked r (Ok (Change m op)) = Named members marked r m × IdBelow ids op

-- the id in an object header that passes
id_below : (ids : ℕ) (d : List ℕ) → object_valid ids d ≡ true → id_of d < ids
unfolding object_valid
id_below ids d e = ltb-true _ _ (both _ _ e).1

kind-below : (ids : ℕ) (d : List ℕ) → kind_valid ids d ≡ true → id_of d < ids
unfolding kind_valid
kind-below ids d e = id_below ids d (both _ _ (both _ _ e).0).0

-- the two commands on the list
names-none : (op k : ℕ) → eqb op k ≡ true → k < 0x0a → names_member op ≡ false
unfolding names_member
names-none op k e h = below 0x0a 0x11 op (omega tests)

module _ (members ids : ℕ) (marked : Bool) (r : List ℕ) where
  guarded : (t : Bool) (a : Refusal) (x : Result Ask Refusal) → (t ≡ true → Facts members ids marked r x)
      → Facts members ids marked r (unless t answer Err a then x)
  guarded t a x f = unless-cases (Facts members ids marked r) t (Err a) x (λ e. tt) f

  branch : (t : Bool) (x y : Result Ask Refusal) → Facts members ids marked r x → Facts members ids marked r y → Facts members ids marked r (when t then x else y)
  branch t x y f g = if-cases (Facts members ids marked r) t x y (λ e. f) (λ e. g)

  -- step 7
  fields_told : (m op : ℕ) (d : List ℕ) → op ≡ opcode_of r → supported op ≡ true
      → (names_member op ≡ true → Named members marked r m) → Facts members ids marked r (fields_of ids m op d)
  unfolding fields_of create_in modify_in query_in destroy_in metadata_in get_in set_in mode_in use_in
  fields_told m op d o s f =
      if-cases (Facts members ids marked r) _ _ _ (λ e. rw o at (names-none op 0 e (lit< tt)))
      (λ n0. if-cases (Facts members ids marked r) _ _ _
      (λ e. guarded _ _ _ (λ t. (rw o at (names-none op 1 e (lit< tt)), t)))
      (λ n1. let n = f (names-one op s (eqb-false _ _ n0) (eqb-false _ _ n1)) in
      branch _ _ _ (guarded _ _ _ (λ e. (n, kind-below ids d e)))
      (branch _ _ _ (guarded _ _ _ (λ e. (n, kind-below ids d e)))
      (branch _ _ _ (guarded _ _ _ (λ e. (n, id_below ids d (both _ _ e).0)))
      (branch _ _ _ (guarded _ _ _ (λ e. (n, id_below ids d e)))
      (branch _ _ _ (guarded _ _ _ (λ e. (n, id_below ids d (both _ _ e).0)))
      (branch _ _ _ (guarded _ _ _ (λ e. let b = id_below ids d e in branch _ _ _ (n, b) (guarded _ _ _ (λ _. (n, b)))))
      (branch _ _ _ (guarded _ _ _ (λ e. (n, id_below ids d e)))
      (guarded _ _ _ (λ e. (n, tt)))))))))))

  named : within data_at longest (length r) ≡ true → eqb (group_of r) 1 ≡ true → reaches members (opcode_of r) (target_of r) ≡ true
      → attended marked (opcode_of r) ≡ true → names_member (opcode_of r) ≡ true → Named members marked r (target_of r)
  unfolding reaches attended
  named l g t a n =
      let w : within 1 members (target_of r) ≡ true = either (not (names_member (opcode_of r))) _ t (λ e. cc) (λ e. e) in
      record {
        long = within_low _ _ _ l;
        short = within-high _ _ _ l;
        group = eqb-true _ _ g;
        opcode = n;
        target = refl;
        low = within_low _ _ _ w;
        high = within-high _ _ _ w;
        unmarked = either (not marked) _ a (λ e. not-true marked e) (λ e. cc);
      }

  -- the tests of steps 2 to 5 passed
  passed : (in_use : ℕ) → within data_at longest (length r) ≡ true → eqb (group_of r) 1 ≡ true → usable in_use (opcode_of r) ≡ true
      → reaches members (opcode_of r) (target_of r) ≡ true → attended marked (opcode_of r) ≡ true
      → Facts members ids marked r (fields_of ids (target_of r) (opcode_of r) (data_of r))
  unfolding usable
  passed in_use l g u t a =
      fields_told (target_of r) (opcode_of r) (data_of r) refl (both _ _ u).0 (named l g t a)

  facts : (in_use : ℕ) → Facts members ids marked r (ask_of members ids in_use marked r)
  unfolding ask_of framed_of
  facts in_use =
      guarded _ _ _ (λ l. guarded _ _ _ (λ g. guarded _ _ _ (λ u. guarded _ _ _ (λ t. guarded _ _ _
      (λ a. passed in_use (search) (search) (search) (search) (search))))))

  pub asked : (in_use : ℕ) (a : Result Ask Refusal) → ask_of members ids in_use marked r ≡ a → Facts members ids marked r a
  asked in_use a e = rw e at (facts in_use)
