-- WHAT IS CLAIMED of the two calls on a setup, a full capture and a later list: when each is done and by which number it is
-- refused; and of the made list. The sizes and numbers stand here as plain digits, apart from the definitions. The record
-- CallClaims at the end lists it, ../proofs/Calls.antt proves it, and ../proofs/CallExample.antt has lists that meet the
-- hypotheses. Assumes nothing.
use Rattle.std.specs.Prelude.{◌≡◌, true, false, List, [], ◌++◌, ℕ, ◌+◌, ◌*◌, ◌<◌, ◌≤◌, length, drop, Some, Option, None}
use Rattle.theory.specs.Bytes.{bytes_at}
use Rattle.inventory.specs.Inventory.{row_at, present, selector_of, place_of, value_of}
use Rattle.parts.specs.declared.ListForm.TheVariants.{Parts}
use Rattle.parts.specs.List.{parts_of, among, value_or}
use Rattle.rules.specs.Rules.{cause_of, is_accepted}
use Rattle.values.specs.Apply.{applied}
use Rattle.capture.specs.Capture.{capture_of}
use Rattle.setups.specs.declared.MemberSetup.{MemberSetup}
use Rattle.setups.specs.Member.{member_setup}
use Rattle.difference.specs.Difference.{lookup_told, made}
use Rattle.difference.specs.Under.{lookup_under, merge_under}
use Rattle.difference.specs.Claims.{Pair, both_set, value_found}

-- ---- when the calls are done, and by which number they are refused ----

-- a list has each part of the inventory of a member with so many queues
abbrev pub HasEach : ℕ → List ℕ → Type 0
HasEach queues l =
    (i : ℕ) → i < 15 → present queues (row_at i) ≡ true → among (row_at i).part_type (row_at i).selector (parts_of Parts l) ≡ true

-- what both calls ask beside a setup that has this member: two lists that the member accepts, and a full capture that lacks no
-- part; s is what the setup says of the member
pub record Asks (s : MemberSetup) (full later : List ℕ) : Type 0 where
  pub full_accepted : is_accepted (cause_of s.queues s.features full) ≡ true
  pub later_accepted : is_accepted (cause_of s.queues s.features later) ≡ true
  pub lacks_none : HasEach s.queues full

-- where it is not so, the number of the first that applies; `refusal` is what is given with it
pub record Refuses {A : Type 0} (s : MemberSetup) (full later : List ℕ) (result : A) (refusal : ℕ → A) : Type 0 where
  pub bad_full : is_accepted (cause_of s.queues s.features full) ≡ false → result ≡ refusal 2
  pub bad_later : is_accepted (cause_of s.queues s.features full) ≡ true
      → is_accepted (cause_of s.queues s.features later) ≡ false → result ≡ refusal 3
  pub lacks_part : is_accepted (cause_of s.queues s.features full) ≡ true
      → is_accepted (cause_of s.queues s.features later) ≡ true → (HasEach s.queues full → ⊥) → result ≡ refusal 4

-- the part asked is that of a row that the member has; of the selector's bytes those that the type names count
pub record Asked (queues t selector : ℕ) : Type 0 where
  pub row : ℕ
  pub below : row < 15
  pub there : present queues (row_at row) ≡ true
  pub type-is : (row_at row).part_type ≡ t
  pub selector-is : (row_at row).selector ≡ selector_of t selector

-- the value stands in a list, so many bytes from a place on
pub record Stands (t s : ℕ) (l : List ℕ) (at len : ℕ) : Type 0 where
  pub inside : at + len ≤ length l
  pub value : bytes_at at len l ≡ value_or t s (parts_of Parts l) []

-- 0, then 1 and where the value stands in the later list; or 0 and where it does in the full capture, where the later list has
-- none
pub record Tells (full later : List ℕ) (t s : ℕ) (told : ℕ × (ℕ × (ℕ × ℕ))) : Type 0 where
  pub done : told.0 ≡ 0
  pub in_later : among t s (parts_of Parts later) ≡ true → (told.1.0 ≡ 1) × Stands t s later told.1.1.0 told.1.1.1
  pub in_full : among t s (parts_of Parts later) ≡ false → (told.1.0 ≡ 0) × Stands t s full told.1.1.0 told.1.1.1

-- A lookup is done exactly if both lists are as asked and the part is in the inventory; refused, it gives zeros.
pub record Finds (s : MemberSetup) (full later : List ℕ) (t selector : ℕ) (told : ℕ × (ℕ × (ℕ × ℕ))) : Type 0 where
  pub done : Asks s full later → Asked s.queues t selector → Tells full later t (selector_of t selector) told
  pub asks : told.0 ≡ 0 → Asks s full later
  pub asked : told.0 ≡ 0 → Asked s.queues t selector
  pub refuses : Refuses s full later told (λ n. (n, (0, (0, 0))))
  pub outside : Asks s full later → (Asked s.queues t selector → ⊥) → told ≡ (5, (0, (0, 0)))

-- A merge is done exactly if both lists are as asked and the buffer has room: the made list is at its front, and the rest of it
-- is as it was. Refused, it writes nothing.
pub record Merges (s : MemberSetup) (full later out : List ℕ) (result : ℕ × (ℕ × List ℕ)) : Type 0 where
  pub done : Asks s full later → 157 + 72 * s.queues ≤ length out
      → result ≡ (0, (157 + 72 * s.queues, made s.queues full later ++ drop (157 + 72 * s.queues) out))
  pub asks : result.0 ≡ 0 → Asks s full later
  pub room : result.0 ≡ 0 → 157 + 72 * s.queues ≤ length out
  pub refuses : Refuses s full later result (λ n. (n, (0, out)))
  pub short : Asks s full later → length out < 157 + 72 * s.queues → result ≡ (6, (0, out))

-- a setup that has not this member is the first refusal, 1
abbrev pub FindsUnder : Option MemberSetup → List ℕ → List ℕ → ℕ → ℕ → ℕ × (ℕ × (ℕ × ℕ)) → Type 0
FindsUnder None full later t selector told = told ≡ (1, (0, (0, 0)))
FindsUnder (Some s) full later t selector told = Finds s full later t selector told

abbrev pub MergesUnder : Option MemberSetup → List ℕ → List ℕ → List ℕ → ℕ × (ℕ × List ℕ) → Type 0
MergesUnder None full later out result = result ≡ (1, (0, out))
MergesUnder (Some s) full later out result = Merges s full later out result

-- ---- the made list ----

-- In a member whose values, 205 bytes, begin with the device features: setting the made list leaves the values that setting the
-- full capture and then the later list leaves; the made list is, byte for byte, the full capture of a member with these; and what
-- is looked up for a part is what then stands in its row.
pub record CapturesBoth (queues : ℕ) (full later values : List ℕ) : Type 0 where
  pub same : applied queues (parts_of Parts (made queues full later)) values ≡ both_set queues full later values
  pub captured : made queues full later ≡ capture_of queues (both_set queues full later values)
  pub found : (t s i : ℕ) → place_of queues t (selector_of t s) ≡ Some i
      → value_found queues (bytes_at 0 16 values) full later t s ≡ value_of (both_set queues full later values) i

pub record CallClaims : Type 0 where
  pub finds : (setup : List ℕ) (m : ℕ) (full later : List ℕ) (t selector : ℕ)
      → FindsUnder (member_setup setup m) full later t selector (lookup_told (lookup_under (member_setup setup m) full later t selector))
  pub merges : (setup : List ℕ) (m : ℕ) (full later out : List ℕ)
      → MergesUnder (member_setup setup m) full later out (merge_under (member_setup setup m) full later out)
  pub size : (queues : ℕ) (features full later : List ℕ) → Pair queues features full later
      → length (made queues full later) ≡ 157 + 72 * queues
  pub captures_both : (queues : ℕ) (full later values : List ℕ) → length values ≡ 205
      → Pair queues (bytes_at 0 16 values) full later → CapturesBoth queues full later values
