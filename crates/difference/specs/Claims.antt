-- WHAT IS CLAIMED of the list made of a full capture and a later list, and of what is looked up in the two, on the values of a
-- member: 02, request 7. The record Claims at the end lists it, ../proofs/Claims.antt proves it, and ../proofs/Example.antt
-- has a pair that meets the hypotheses. Assumes nothing.
use Rattle.std.specs.Prelude.{◌≡◌, true, List, [], ℕ, ◌<◌, length, Some}
use Rattle.theory.specs.Bytes.{bytes_at}
use Rattle.inventory.specs.Inventory.{features_size, values_size, parts_size, selector_of, place_of, value_of}
use Rattle.parts.specs.declared.ListForm.TheVariants.{Parts}
use Rattle.parts.specs.List.{parts_of}
use Rattle.rules.specs.Rules.{cause_of, is_accepted}
use Rattle.values.specs.Apply.{applied}
use Rattle.difference.specs.Difference.{value_at, is_full, lookup_of, lookup_told, made}

-- Both lists are accepted by a member with so many queues and these device features, and the full capture lacks no part.
pub record Pair (queues : ℕ) (features full later : List ℕ) : Type 0 where
  pub few : queues < 5
  pub full_accepted : is_accepted (cause_of queues features full) ≡ true
  pub later_accepted : is_accepted (cause_of queues features later) ≡ true
  pub lacks_none : is_full queues full ≡ true

-- a member's values after the full capture, and then the later list, were set
abbrev pub both_set : ℕ → List ℕ → List ℕ → List ℕ → List ℕ
both_set queues full later values = applied queues (parts_of Parts later) (applied queues (parts_of Parts full) values)

-- the value that a lookup hands back
abbrev pub value_found : ℕ → List ℕ → List ℕ → List ℕ → ℕ → ℕ → List ℕ
value_found queues features full later t s = value_at full later (lookup_of queues features full later t s)

-- The made list is a full capture: it is accepted, lacks no part, and is 157 + 72Q bytes long. Whatever part is asked, a lookup
-- in it, with an empty later list, is answered by the same name and hands back the same value.
pub record MadeIsFull (queues : ℕ) (features full later : List ℕ) : Type 0 where
  pub accepted : is_accepted (cause_of queues features (made queues full later)) ≡ true
  pub lacks_none : is_full queues (made queues full later) ≡ true
  pub size : length (made queues full later) ≡ parts_size queues
  pub same_name : (t s : ℕ) → (lookup_told (lookup_of queues features (made queues full later) [] t s)).0 ≡ (lookup_told (lookup_of queues features full later t s)).0
  pub same_value : (t s : ℕ) → value_found queues features (made queues full later) [] t s ≡ value_found queues features full later t s

-- In a member whose values begin with the device features: setting the made list leaves the values that setting the full
-- capture and then the later list leaves; and what is looked up for a part is what then stands in its row.
pub record SetsBoth (queues : ℕ) (full later values : List ℕ) : Type 0 where
  pub same : applied queues (parts_of Parts (made queues full later)) values ≡ both_set queues full later values
  pub found : (t s i : ℕ) → place_of queues t (selector_of t s) ≡ Some i
      → value_found queues (bytes_at 0 features_size values) full later t s ≡ value_of (both_set queues full later values) i

pub record Claims : Type 0 where
  -- what is found is not empty, since no value of the table is; so an empty part is a refusal
  pub not_empty : (queues : ℕ) (features full later : List ℕ) (t s : ℕ) → queues < 5
      → (lookup_told (lookup_of queues features full later t s)).0 ≡ 0 → 0 < length (value_found queues features full later t s)
  pub made_is_full : (queues : ℕ) (features full later : List ℕ) → Pair queues features full later → MadeIsFull queues features full later
  pub sets_both : (queues : ℕ) (full later values : List ℕ) → length values ≡ values_size
      → Pair queues (bytes_at 0 features_size values) full later → SetsBoth queues full later values
