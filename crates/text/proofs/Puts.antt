-- One text behind another: room for each, and what both leave. Assumes nothing.
use mathlib.Core.Path.{◌≡◌, refl, ap, ◌∙◌}
use mathlib.Core.List.{List, [], ◌++◌}
use Prim.Native.Nat.{ℕ, ◌≤◌}
use native.Mathlib.Omega.{arith}
use lib.ListN.{length, length-append}
use Rattle.wire.proofs.StoreLaws.{length_stored, stored_none, stored_more}
use Rattle.text.specs.declared.Text.{Text}
use Rattle.text.specs.Put.{Room, Put}

-- as long as before
pub put_long : (a : List ℕ) (t u : Text) → Put a t u → length u.out.now ≡ length t.out.now
put_long a t u p = ap length p.holds ∙ length_stored t.out.now t.at a p.fits.fits

module _ (a b : List ℕ) (t : Text) where
  pub room_first : Room t (a ++ b) → Room t a
  room_first h = record { fits = omega (arith, rw length-append at h.fits) }

  module _ (u : Text) (p : Put a t u) where
    pub room_next : Room t (a ++ b) → Room u b
    room_next h = record { fits = omega (arith, p.ends, put_long a t u p, rw length-append at h.fits) }

    pub put_then : (v : Text) → Put b u v → Put (a ++ b) t v
    put_then v z =
        record {
          same_output = z.same_output ∙ p.same_output;
          fits = record { fits = rw length-append (omega (arith, p.ends, put_long a t u p, z.fits.fits)) };
          ends = rw length-append (omega (arith, p.ends, z.ends));
          holds = z.holds ∙ rw p.holds (stored_more t.out.now t.at a b u.at p.ends p.fits.fits);
        }

pub put_nothing : (t : Text) → t.at ≤ length t.out.now → Put [] t t
put_nothing t h =
    record { same_output = refl; fits = record { fits = omega arith }; ends = omega arith; holds = stored_none t.out.now t.at }

-- room for the second and the third of a row of texts; the last of them is the row's end
pub room_second : (a b c : List ℕ) (t u : Text) → Put a t u → Room t (a ++ (b ++ c)) → Room u b
room_second a b c t u p h = room_first b c u (room_next a (b ++ c) t u p h)

pub room_last : (c b : List ℕ) (u v : Text) → Put b u v → (a : List ℕ) (t : Text) → Put a t u → Room t (a ++ (b ++ c)) → Room v c
room_last c b u v y a t x h = room_next b c u v y (room_next a (b ++ c) t u x h)

pub put_three : (a b c : List ℕ) (t u v w : Text) → Put a t u → Put b u v → Put c v w → Put (a ++ (b ++ c)) t w
put_three a b c t u v w x y z = put_then a (b ++ c) t u x w (put_then b c u v y w z)
