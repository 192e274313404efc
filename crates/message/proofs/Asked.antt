-- What is known of a message by what it asks: whom it names, and how long it is. Assumes nothing.
use Rattle.std.proofs.Common.{◌≡◌, ℕ, ◌+◌, ◌<◌, ◌≤◌, Bool, true, List, length, arith, eqb-true, leb-true}
use Rattle.std.specs.Prelude.{Option, Some, None}
use Rattle.theory.specs.Logic.{unless◌answer◌then◌}
use Rattle.theory.proofs.Tests.{if-cases, unless-cases, both, within-high}
use Rattle.card.specs.Layout.{setup_of}
use Rattle.message.specs.declared.Access.{Access}
use Rattle.message.specs.declared.Access.TheVariants.{Read, Write}
use Rattle.message.specs.Format.{header_size, dev_num_of, member_for, data_at}
use Rattle.message.specs.Access.{is_request, read_in, write_in, whole_of}
use Rattle.message.specs.Message.{access_in}

-- it speaks for member m, one of the card's, and its header is there
pub record Speaks (members : ℕ) (x : List ℕ) (m : ℕ) : Type 0 where
  pub low : 1 ≤ m
  pub high : m ≤ members
  pub long : header_size ≤ length x

-- what each thing that is asked says of the message
abbrev pub Facts : ℕ → List ℕ → Option Access → Type 0
Facts members x None = Unit {0}
Facts members x (Some (Read m offset n)) = Speaks members x m
Facts members x (Some (Write m sent offset n)) = Speaks members x m × (data_at + n ≡ length x)

module _ (members : ℕ) (x : List ℕ) where
  guarded : (t : Bool) (a : Option Access) → (t ≡ true → Facts members x a) → Facts members x (unless t answer None then a)
  guarded t a f = unless-cases (Facts members x) t None a (λ e. tt) f

  whole-facts : dev_num_of x < members → Facts members x (whole_of x)
  unfolding whole_of is_request read_in write_in
  whole-facts h = guarded _ _ λ e.
      let s : Speaks members x (dev_num_of x + 1) = record { low = omega arith; high = omega arith; long = leb-true _ _ (both _ _ (both _ _ e).0).0 } in
      if-cases (Facts members x) _ _ _ (λ t. guarded _ _ (λ u. s)) λ t.
      if-cases (Facts members x) _ _ _ (λ u. guarded _ _ (λ v. (s, eqb-true _ _ v))) (λ u. tt)

module _ (c x : List ℕ) where
  -- nothing is asked of a card, or what the message asks of any
  pub access-cases : (P : Option Access → Type 0) → P None → (Facts (setup_of c).members x (whole_of x) → P (whole_of x)) → P (access_in c x)
  unfolding access_in
  access-cases P f g =
      unless-cases P _ _ _ (λ e. f) λ e.
      unless-cases P _ _ _ (λ u. f) (λ u. g (whole-facts _ x (omega (arith, within-high 1 (setup_of c).members (member_for x) e))))

  pub asked : (a : Option Access) → a ≡ access_in c x → Facts (setup_of c).members x a
  asked a e = rw e (access-cases (Facts (setup_of c).members x) tt (λ f. f))
