-- The second pass: the places of a frame that is known to stand there, and the loop that stores frames. Assumes nothing.
use mathlib.Core.Path.{◌≡◌, refl, sym, ap, ◌∙◌}
use mathlib.Core.Bool.{Bool, true, false}
use mathlib.Core.List.{List}
use Prim.Native.Nat.{ℕ, zero, suc, ◌+◌, ◌*◌, ◌-◌, ◌≤◌, ◌<◌}
use native.Mathlib.Nat.{sub-zero}
use native.Mathlib.Omega.{arith}
use lib.Dec.{eqb}
use lib.ListN.{length}
use lib.Seq.{sets}
use Rattle.format.specs.Read.{item}
use Rattle.format.specs.Serialize.{images}
use Rattle.format.specs.Places.{number32, final_here, sealed_here, frame_of_here, frame_of_end, frame_here, frame_end, items_here, items_end}
use Rattle.format.specs.Lent.{filled}
use Rattle.format.proofs.Tests.{never, eqb_is, is_eqb, neqb_is}
use Rattle.steps.proofs.Numbers.{length_part}
use Rattle.entries.proofs.Items.{one_less}
use Rattle.entries.proofs.Fills.{Numbered, Fills, fills_start, fills_next, fills_more, fills_end}
use Rattle.frames.specs.Codes.{parts_here, part_numbers, Kinds}
use Rattle.frames.specs.Places.{numbers_of, FrameIs}
use Rattle.frames.specs.declared.filling.FramePlaces.{FramePlaces}

-- where a frame ends: behind its first number, and by its kind
forward_of : (frame : ℕ) (b : Bool) (m : List ℕ) (s : ℕ) → s ≤ frame_of_end frame b m s
unfolding frame_of_end
forward_of frame true m s = omega arith
forward_of frame false m s = omega arith

module _ (frame : ℕ) (m : List ℕ) (s : ℕ) where
  final_end : final_here m s ≡ true → frame_end frame m s ≡ s + 24 + number32 m (s + 20) + 16
  unfolding frame_of_end
  final_end h =
      let e : s + 4 + 4 + 12 ≡ s + 20 = omega arith in
      let f : s + 4 + 4 + 12 + 4 ≡ s + 24 = omega arith in
      rw (h, f, e)

  regular_end : final_here m s ≡ false → frame_end frame m s ≡ s + 16 + frame + 16
  unfolding frame_of_end
  regular_end h = let e : s + 4 + 12 ≡ s + 16 = omega arith in rw (h, e)

  behind_number : s + 4 ≤ frame_end frame m s
  behind_number = forward_of frame (final_here m s) m (s + 4)

  -- its numbers, by where its IV and its content stand
  sealed_is : (iv c n : ℕ) → item (frame_here frame m s) ≡ sealed_here m iv c n → frame_end frame m s ≡ c + n + 16 → iv + 12 ≤ c → c + n + 16 ≤ length m
      → (f : FramePlaces) → f.iv ≡ iv → f.content ≡ c → f.len ≡ n → FrameIs frame m s f
  unfolding images
  sealed_is iv c n here end order fits f a b d =
      record {
        numbers = rw (a, b, d, here, length_part m iv 12 (omega arith), length_part m c n (omega arith), length_part m (c + n) 16 (omega arith));
        ends = rw (b, d) (sym end);
      }

  -- the frame that is known to stand there
  module _ (there : frame_end frame m s ≤ length m) (last : Bool) (is : last ≡ final_here m s) where
    module _ (h : last ≡ true) where
      final_fits : s + 24 + number32 m (s + 20) + 16 ≤ length m
      final_fits = rw (final_end (sym is ∙ h)) at there

      pub known_length : s + 20 + 4 ≤ length m
      known_length = omega (arith, final_fits)

      module _ (n : ℕ) (nIs : n ≡ number32 m (s + 20)) where
        pub known_final_fits : length m < 4294967296 → s + 24 + n + 16 < 4294967296
        known_final_fits small = omega (arith, final_fits)

        pub known_final : (f : FramePlaces) → f.iv ≡ s + 8 → f.content ≡ s + 24 → f.len ≡ n → FrameIs frame m s f
        unfolding frame_of_here
        known_final f x y z =
            let a : s + 4 + 4 ≡ s + 8 = omega arith in
            let b : s + 8 + 12 ≡ s + 20 = omega arith in
            let c : s + 20 + 4 ≡ s + 24 = omega arith in
            sealed_is (s + 8) (s + 24) (number32 m (s + 20)) (rw (sym is ∙ h, a, b, c) refl) (final_end (sym is ∙ h)) (omega arith) final_fits f x y (z ∙ nIs)

    module _ (h : last ≡ false) where
      regular_fits : s + 16 + frame + 16 ≤ length m
      regular_fits = rw (regular_end (sym is ∙ h)) at there

      pub known_regular_fits : length m < 4294967296 → s + 16 + frame + 16 < 4294967296
      known_regular_fits small = omega (arith, regular_fits)

      pub known_regular : (f : FramePlaces) → f.iv ≡ s + 4 → f.content ≡ s + 16 → f.len ≡ frame → FrameIs frame m s f
      unfolding frame_of_here
      known_regular f x y z =
          let b : s + 4 + 12 ≡ s + 16 = omega arith in
          sealed_is (s + 4) (s + 16) frame (rw (sym is ∙ h, b) refl) (regular_end (sym is ∙ h)) (omega arith) regular_fits f x y z

-- the loop
frames_numbered : (frame : ℕ) → Numbered (frame_end frame) part_numbers 6
unfolding images
frames_numbered frame = record { forward = λ m s. omega (arith, behind_number frame m s); many = λ f. refl }

pub record Stores (frame : ℕ) (m table₀ table : List ℕ) (first n i s : ℕ) : Type 0 where
  pub fills : Fills (parts_here frame) (frame_end frame) part_numbers 6 m table₀ table first n i (6 * i) s
  pub kinds : Kinds frame m (n - i) s

pub stores_start : (frame : ℕ) (m t : List ℕ) (first n : ℕ) → (0 < n → items_end (frame_end frame) m n first ≤ length m) → Kinds frame m n first → Stores frame m t t first n 0 first
stores_start frame m t first n h k = record { fills = fills_start m t first n h; kinds = rw (sub-zero n) k }

-- the first of the frames left is final just where it is the only one
first_kind : (frame : ℕ) (m : List ℕ) (k s : ℕ) → Kinds frame m (suc k) s → final_here m s ≡ eqb k 0
first_kind frame m zero s h = h
first_kind frame m (suc k) s h = h.0 ∙ sym (neqb_is (suc k) 0 (λ z. omega arith))

other_kinds : (frame : ℕ) (m : List ℕ) (k s : ℕ) → Kinds frame m (suc k) s → Kinds frame m k (frame_end frame m s)
other_kinds frame m zero s h = tt
other_kinds frame m (suc k) s h = h.1

module _ (frame : ℕ) (m t₀ t : List ℕ) (first n i s : ℕ) (w : Stores frame m t₀ t first n i s) where
  pub stores_long : length t ≡ length t₀
  stores_long = w.fills.long

  module _ (h : i < n) where
    pub stores_next : frame_end frame m s ≤ length m
    stores_next = fills_next (frames_numbered frame) m t₀ t first n i (6 * i) s w.fills h

    pub stores_near : length m < 4294967296 → s < 4294967296
    stores_near k = omega (arith, stores_next, behind_number frame m s)

    left : Kinds frame m (suc (n - (i + 1))) s
    left = rw (one_less n i h) at w.kinds

    pub stores_kind : (b : Bool) → b ≡ eqb (i + 1) n → b ≡ final_here m s
    stores_kind b e = e ∙ sym (first_kind frame m (n - (i + 1)) s left ∙ by (eqb (i + 1) n) refl)
      where
        by : (c : Bool) → eqb (i + 1) n ≡ c → eqb (n - (i + 1)) 0 ≡ eqb (i + 1) n
        by true q = let z : i + 1 ≡ n = is_eqb (i + 1) n q in eqb_is (n - (i + 1)) 0 (omega arith) ∙ sym q
        by false q = neqb_is (n - (i + 1)) 0 (λ z. never (eqb_is (i + 1) n (omega arith)) q) ∙ sym q

    pub stores_more : (f : FramePlaces) → FrameIs frame m s f → (t' : List ℕ) → t' ≡ sets t (6 * i) (numbers_of f) → (tag : ℕ) → tag ≡ f.content + f.len → Stores frame m t₀ t' first n (i + 1) (tag + 16)
    stores_more f is t' e tag d =
        record {
          fills = fills_more (frames_numbered frame) m t₀ t first n i (6 * i) s w.fills h t' (6 * (i + 1)) (tag + 16) (e ∙ sym (ap (sets t (6 * i)) is.numbers)) (omega arith) (omega (arith, is.ends));
          kinds = let next : tag + 16 ≡ frame_end frame m s = omega (arith, is.ends) in rw next (other_kinds frame m (n - (i + 1)) s left);
        }

  pub stores_end : 6 * n ≤ length t₀ → n ≤ i → t ≡ filled (images part_numbers (items_here (parts_here frame) (frame_end frame) m n first)) t₀
  stores_end r h = fills_end (frames_numbered frame) m t₀ t first n i (6 * i) s w.fills r h
