-- What the returns of decode need, beside the laws of the ladder. Assumes nothing.
use Rattle.std.proofs.Common.{◌≡◌, ℕ, ◌-◌, ◌<◌, ◌≤◌, Bool, true, false, not, List, length, sym, refl, ap, ◌∙◌, arith, ne_eqb, leb-true}
use borrow.Author.Tests.{not-true, not-false}
use Rattle.std.specs.Prelude.{Option, Some, None}
use Rattle.theory.specs.Logic.{when◌then◌else◌, unless◌answer◌then◌}
use Rattle.theory.proofs.Tests.{by_cases, both, tests}
use Rattle.theory.proofs.Ladder.{pass, stop, no-not, yes-not}
use Rattle.wire.specs.Le.{number}
use Rattle.card.specs.Layout.{is_member, is_marked}
use Rattle.message.specs.declared.Access.{Access}
use Rattle.message.specs.declared.Access.TheVariants.{Write}
use Rattle.message.specs.Format.{header_size, msg_id_of, member_for, offset_at, data_at, length_of, get_config, set_config}
use Rattle.message.specs.Access.{is_request, read_in, write_in, whole_of}
use Rattle.message.specs.Message.{access_in}

-- b tested the message's header
module _ (x : List ℕ) (b : Bool) (e : b ≡ is_request x) where
  pub no-request : (c : List ℕ) → not b ≡ true → None ≡ access_in c x
  unfolding access_in whole_of unless◌answer◌then◌
  no-request c n =
      rw (sym e ∙ not-true b n)
      (by_cases (is_member c (member_for x)) (λ t. rw t (by_cases (not (is_marked c (member_for x))) (λ u. rw u) (λ u. rw u))) (λ t. rw t))

  pub header-there : (n : ℕ) → not b ≡ false → n ≤ header_size → n ≤ length x
  unfolding is_request
  header-there n h l =
      let k : header_size ≤ length x = leb-true _ _ (both _ _ (both _ _ (sym e ∙ not-false b h)).0).0 in
      omega arith

-- t tested the member m that the message is for, and u its mark
module _ (c x : List ℕ) (m : ℕ) (em : m ≡ member_for x) (t : Bool) (et : t ≡ is_member c m) where
  pub no-member : not t ≡ true → None ≡ access_in c x
  unfolding access_in
  no-member n = stop _ _ _ _ (sym (et ∙ ap (is_member c) em) ∙ not-true t n) refl

  module _ (h : not t ≡ false) (u : Bool) (eu : u ≡ is_marked c m) where
    there : is_member c (member_for x) ≡ true
    there = sym (et ∙ ap (is_member c) em) ∙ not-false t h

    pub is-marked : u ≡ true → None ≡ access_in c x
    unfolding access_in
    is-marked k = pass _ _ _ _ there (stop _ _ _ _ (yes-not _ (sym (eu ∙ ap (is_marked c) em) ∙ k)) refl)

    -- it is not marked: the kind decides
    module _ (v : u ≡ false) (b : Bool) (e : b ≡ is_request x) (n : not b ≡ false) (a : Option Access) where
      of-whole : a ≡ whole_of x → a ≡ access_in c x
      unfolding access_in
      of-whole w = pass _ _ _ _ there (pass _ _ _ _ (no-not _ (sym (eu ∙ ap (is_marked c) em) ∙ v)) w)

      request : is_request x ≡ true
      request = sym e ∙ not-false b n

      pub reads-config : msg_id_of x ≡ get_config → a ≡ read_in x → a ≡ access_in c x
      unfolding whole_of when◌then◌else◌ unless◌answer◌then◌
      reads-config i w = of-whole (rw (request, i) w)

      pub writes-config : msg_id_of x ≡ set_config → a ≡ write_in x → a ≡ access_in c x
      unfolding whole_of when◌then◌else◌ unless◌answer◌then◌
      writes-config i w = of-whole (rw (request, i) w)

      pub other-kind : (msg_id_of x ≡ get_config → ⊥) → (msg_id_of x ≡ set_config → ⊥) → a ≡ None → a ≡ access_in c x
      unfolding whole_of when◌then◌else◌ unless◌answer◌then◌
      other-kind i j w = of-whole (rw (request, ne_eqb _ _ i, ne_eqb _ _ j) w)

-- the length field of a write, where the data agrees with it and where not
module _ (x : List ℕ) where
  pub write-cut : length x < data_at → None ≡ write_in x
  unfolding write_in
  write-cut h = stop _ _ _ _ (omega tests) refl

  module _ (n : ℕ) (there : data_at ≤ length x) (e : n ≡ length_of x) where
    pub write-other : (length x - data_at ≡ n → ⊥) → None ≡ write_in x
    unfolding write_in
    write-other h = stop _ _ _ _ (omega tests) refl

    pub write-whole : (m g o : ℕ) → length x - data_at ≡ n → m ≡ member_for x → g ≡ number header_size 4 x → o ≡ number offset_at 4 x
        → Some (Write m g o n) ≡ write_in x
    unfolding write_in
    write-whole m g o h em eg eo = pass _ _ _ _ (omega tests) (rw (em, eg, eo, e))
