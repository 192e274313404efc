-- A list of parts and its bytes: SPEC 5.4. Assumes nothing.
use Rattle.std.specs.Prelude.{Bool, true, false, List, ℕ, zero, suc, ◌+◌, ◌-◌, leb, ltb, eqb, length, get_or}
use Rattle.theory.specs.Logic.{when◌then◌else◌, unless◌answer◌then◌, ◌and◌, ◌or◌}
use Rattle.theory.specs.Bytes.{bytes_at}
use Rattle.wire.specs.Le.{number}
use Rattle.inventory.specs.Inventory.{selector_of}
use Rattle.inventory.specs.Header.{flags_at, selector_at, length_at, header_size}
use Rattle.parts.specs.declared.ListForm.{ListForm}
use Rattle.parts.specs.declared.ListForm.TheVariants.{Parts, Headers}
use Rattle.parts.specs.Step.{Step}
use Rattle.parts.specs.Step as step

-- a header is followed by its value; in an asked list it stands alone
abbrev pub value_size : ListForm → List ℕ → ℕ → ℕ
value_size Parts l at = number (at + length_at) 4 l
value_size Headers l at = 0

-- the part at a position
unfoldable pub header_at : ListForm → List ℕ → ℕ → Step
header_at form l at =
    step.Part (number at 2 l) (get_or l (at + flags_at) 0) (selector_of (number at 2 l) (number (at + selector_at) 8 l))
    (at + header_size) (value_size form l at)

-- what stands at a position: a part, the end, or a part that is cut: its header or its value runs past the end
unfoldable pub step_at : ListForm → List ℕ → ℕ → Step
step_at form l at =
    unless ltb at (length l) answer step.End then
    unless leb header_size (length l - at) answer step.Cut then
    unless leb (value_size form l at) (length l - (at + header_size)) answer step.Cut then
    header_at form l at

-- a part as it stands in a list
pub record Part : Type 0 where
  pub part_type : ℕ
  pub flags : ℕ
  pub selector : ℕ
  pub value : List ℕ

-- parts one after the other, to the end of the list or to one that is cut
pub data PartList : Type 0 where
  end : PartList
  cut : PartList
  part : Part → PartList → PartList

abbrev pub part_with : ℕ → ℕ → ℕ → List ℕ → Part
part_with t f s v = record { part_type = t; flags = f; selector = s; value = v }

abbrev pub part_in : List ℕ → ℕ → ℕ → ℕ → ℕ → ℕ → Part
part_in l t f s start len = part_with t f s (bytes_at start len l)

abbrev pub on_step {ℓ} : {A : Type ℓ} → Step → (ℕ → ℕ → ℕ → ℕ → ℕ → A) → A → A → A
on_step (step.Part t f s start len) p c e = p t f s start len
on_step step.Cut p c e = c
on_step step.End p c e = e

-- at most n parts from a position
unfoldable pub at_most : ListForm → ℕ → List ℕ → ℕ → PartList
at_most form zero l at = end
at_most form (suc n) l at =
    on_step (step_at form l at)
    (λ t f s start len. part (part_in l t f s start len) (at_most form n l (start + len)))
    cut end

-- a part is at least a byte, so a list has no more parts than bytes
unfoldable pub parts_from : ListForm → List ℕ → ℕ → PartList
parts_from form l at = at_most form (length l) l at

abbrev pub parts_of : ListForm → List ℕ → PartList
parts_of form l = parts_from form l 0

-- no header and no value runs past the end
unfoldable pub whole : PartList → Bool
whole end = true
whole cut = false
whole (part p ps) = whole ps

-- some part has this type and selector
unfoldable pub among : ℕ → ℕ → PartList → Bool
among t s end = false
among t s cut = false
among t s (part p ps) = (eqb p.part_type t and eqb p.selector s) or among t s ps

-- the value of the first that has, or y where none does
unfoldable pub value_or : ℕ → ℕ → PartList → List ℕ → List ℕ
value_or t s end y = y
value_or t s cut y = y
value_or t s (part p ps) y = when eqb p.part_type t and eqb p.selector s then p.value else value_or t s ps y

-- the longest list of parts that a request gives: 4,096 bytes, less its frame and the object header
abbrev pub longest_list : ℕ
longest_list = 4064
