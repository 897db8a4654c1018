-- How many parts a run of items may have to wait for, and frames. Assumes nothing.
use mathlib.Core.Path.{◌≡◌, refl, sym, ap, ◌∙◌}
use mathlib.Core.Bool.{Bool, true, false, cond}
use mathlib.Core.List.Memᴰ
use mathlib.Core.List.{List, [], ◌∷◌, ◌++◌}
use Prim.Native.Nat.{ℕ, zero, suc, ◌+◌, ◌*◌, ◌≤◌, ◌<◌}
use native.Mathlib.Omega.{arith}
use native.Mathlib.Nat.{mul-suc}
use lib.Dec.{eqb}
use lib.ListN.{length, length-append}
use Rattle.format.specs.Read.{ReadResult, success, more_needed, error, Reader, go_on, ◌>>=◌, return, Item, followed, last, behind, run}
use Rattle.format.specs.Serialize.{Part}
use Rattle.format.specs.Frames.{final_mark, read_sealed, read_frame_of, read_frame, read_next_frame, read_frames, read_frames_into}
use Rattle.format.specs.FrameLaws.{Unbounded}
use Rattle.format.proofs.Exact.{more_is_no_success, error_is_no_success}
use Rattle.format.proofs.Takes.{Past, Takes}
use Rattle.format.proofs.Frames.{frame_takes, frames_unbounded}
use Rattle.format.proofs.SteadyLaws.{Grows, Steady, read_steady, uint32_steady}
use Rattle.format.proofs.SteadyFrames.{sealed_steady, frame_steady, frames_steady}
use Rattle.format.proofs.RoundsLaws.{Among, among_behind, places_behind, Parts, more_parts, bind_parts, return_parts, test_parts, read_parts, uint32_parts, Gives, return_gives, test_gives, bind_gives, Valued, parts_valued, test_valued, bind_valued}

-- an item that another follows has n parts at most, and the last one k more
abbrev parts_of : {A : Type 0} → ℕ → ℕ → Item A → ℕ
parts_of n k (followed a) = n
parts_of n k (last a) = n + k

abbrev after_item : {A : Type 0} → (List A → List ℕ → ℕ → List ℕ) → List A → Item A → List ℕ → ℕ → List ℕ
after_item rest acc (followed a) l s = rest (acc ++ (a ∷ [])) l s
after_item rest acc (last a) l s = []

module _ {A : Type 0} (n k : ℕ) (step : List A → Reader (Item A)) (few : (acc : List A) → Valued (parts_of n k) (step acc)) where
  -- the places of a run, with a bound above the bytes left
  unfoldable places_within : ℕ → List A → List ℕ → ℕ → List ℕ
  places_within zero acc l s = []
  places_within (suc b) acc l s = (few acc).places l s ++ places_behind (after_item (places_within b) acc) (step acc l s)

  module _ (unbounded : Unbounded step) (takes : (acc : List A) → Takes 1 (step acc)) (steady : (acc : List A) → Steady (step acc)) where
    covers_within : (b : ℕ) (acc : List A) (l e : List ℕ) (s : ℕ) → length (l ++ e) < b → Among (places_within b acc (l ++ e) s) (run step acc l s)
    unfolding places_within ◌>>=◌ return
    covers_within zero acc l e s h = absurd (omega arith)
    covers_within (suc b) acc l e s h =
        rw (unbounded.unrolled acc l s)
        (by (covers_within b) (step acc l s) (step acc (l ++ e) s) ((steady acc).grows l e s) ((few acc).covers l e s) ((takes acc).past s l s (omega arith)))
      where
        next : ((acc : List A) (l e : List ℕ) (s : ℕ) → length (l ++ e) < b → Among (places_within b acc (l ++ e) s) (run step acc l s)) → (x : Item A) (l' : List ℕ) (t : ℕ) → length (l' ++ e) < b
            → Among (after_item (places_within b) acc x (l' ++ e) t) (behind (run step) acc x l' t)
        next ih (followed a) l' t g = ih (acc ++ (a ∷ [])) l' e t g
        next ih (last a) l' t g = tt

        by : ((acc : List A) (l e : List ℕ) (s : ℕ) → length (l ++ e) < b → Among (places_within b acc (l ++ e) s) (run step acc l s)) → (x y : ReadResult (Item A)) → Grows e s (s + length l) x y
            → Among ((few acc).places (l ++ e) s) x → Past s x → Among ((few acc).places (l ++ e) s ++ places_behind (after_item (places_within b) acc) y) (go_on x (behind (run step) acc))
        by ih (success x l' t) y g w z =
            let c = length-append l e in
            let d = length-append l' e in
            let q = g.1 in
            rw g.0 (among_behind ((few acc).places (l ++ e) s) (after_item (places_within b) acc x (l' ++ e) t) (behind (run step) acc x l' t) (next ih x l' t (omega arith)))
        by ih (more_needed p) y g w z = Memᴰ.append_left _ w
        by ih (error j) y g w z = tt

    -- how many there are, by the items that were gathered
    few_within : (b : ℕ) (acc : List A) (l : List ℕ) (s : ℕ) → length l < b → (xs : List A) (l' : List ℕ) (t : ℕ) → run step acc l s ≡ success xs l' t
        → length (places_within b acc l s) + n * length acc ≤ n * length xs + k
    unfolding places_within ◌>>=◌ return
    few_within zero acc l s h xs l' t e = absurd (omega arith)
    few_within (suc b) acc l s h xs l' t e = by (few_within b) (step acc l s) refl ((steady acc).grows l [] s) ((takes acc).past s l s (omega arith)) (sym (unbounded.unrolled acc l s) ∙ e)
      where
        Rest : Type 0
        Rest = (acc : List A) (l : List ℕ) (s : ℕ) → length l < b → (xs : List A) (l' : List ℕ) (t : ℕ) → run step acc l s ≡ success xs l' t
            → length (places_within b acc l s) + n * length acc ≤ n * length xs + k

        one_more : (a : A) → n * length (acc ++ (a ∷ [])) ≡ n * length acc + n
        one_more a = let d = length-append acc (a ∷ []) in let z : length (acc ++ (a ∷ [])) ≡ suc (length acc) = omega arith in rw z (mul-suc n (length acc))

        next : Rest → (x : Item A) (l₁ : List ℕ) (t₁ : ℕ) → length l₁ < b → length ((few acc).places l s) ≤ parts_of n k x → behind (run step) acc x l₁ t₁ ≡ success xs l' t
            → length ((few acc).places l s) + length (after_item (places_within b) acc x l₁ t₁) + n * length acc ≤ n * length xs + k
        next ih (followed a) l₁ t₁ g w q = let z = ih (acc ++ (a ∷ [])) l₁ t₁ g xs l' t q in let y = one_more a in omega arith
        next ih (last a) l₁ t₁ g w q =
            let z : acc ++ (a ∷ []) ≡ xs = cc in
            let x : n * length (acc ++ (a ∷ [])) ≡ n * length xs = ap (λ (xs : List A). n * length xs) z in
            let y = one_more a in
            omega arith

        by : Rest → (x : ReadResult (Item A)) → step acc l s ≡ x → Grows [] s (s + length l) x (step acc (l ++ []) s) → Past s x → go_on x (behind (run step) acc) ≡ success xs l' t
            → length ((few acc).places l s ++ places_behind (after_item (places_within b) acc) x) + n * length acc ≤ n * length xs + k
        by ih (success x l₁ t₁) f g z q =
            let d = length-append ((few acc).places l s) (after_item (places_within b) acc x l₁ t₁) in
            let c = g.1 in
            let w = next ih x l₁ t₁ (omega arith) ((few acc).few l s x l₁ t₁ f) q in
            omega arith
        by ih (more_needed p) f g z q = more_is_no_success q
        by ih (error j) f g z q = error_is_no_success q

    pub run_valued : Valued (λ xs. n * length xs + k) (run step [])
    run_valued =
        record {
          places = λ l s. places_within (suc (length l)) [] l s;
          covers = λ l e s. covers_within (suc (length (l ++ e))) [] l e s (omega arith);
          few = λ l s xs l' t e. (let z = few_within (suc (length l)) [] l s (omega arith) xs l' t e in omega arith);
        }

-- a frame: behind an IV, behind its first number, and whole
sealed_parts : (iv : Part) (n : ℕ) → Parts 2 (read_sealed iv n)
unfolding read_sealed
sealed_parts iv n = more_parts 2 (bind_parts (read_steady n) (read_parts n) (λ c. bind_parts (read_steady _) (read_parts _) (λ t. return_parts _))) (omega arith)

frame_of_parts : (frame due : ℕ) (final : Bool) (number : ℕ) → Parts (cond final 5 3) (read_frame_of frame due final number)
unfolding read_frame_of
frame_of_parts frame due true number =
    more_parts 5 (bind_parts uint32_steady uint32_parts (λ x. test_parts 34 _ (bind_parts (read_steady _) (read_parts _) (λ iv. bind_parts uint32_steady uint32_parts (λ n.
    test_parts 35 _ (bind_parts (sealed_steady iv n) (sealed_parts iv n) (λ f. return_parts _))))))) (omega arith)
frame_of_parts frame due false number =
    more_parts 3 (test_parts 34 _ (bind_parts (read_steady _) (read_parts _) (λ iv. bind_parts (sealed_steady iv frame) (sealed_parts iv frame) (λ f. return_parts _)))) (omega arith)

frame_of_gives : (frame due : ℕ) (final : Bool) (number : ℕ) → Gives (λ x. 1 + cond final 5 3 ≤ parts_of 4 2 x) (read_frame_of frame due final number)
unfolding read_frame_of
frame_of_gives frame due true number = bind_gives _ (λ x. test_gives 34 _ (bind_gives _ (λ iv. bind_gives _ (λ n. test_gives 35 _ (bind_gives _ (λ f. return_gives _ (omega arith)))))))
frame_of_gives frame due false number = test_gives 34 _ (bind_gives _ (λ iv. bind_gives _ (λ f. return_gives _ (omega arith))))

frame_valued : (frame due : ℕ) → Valued (parts_of 4 2) (read_frame frame due)
unfolding read_frame
frame_valued frame due =
    bind_valued (parts_of 4 2) uint32_steady (parts_valued uint32_parts) (λ number. parts_valued (frame_of_parts frame due (eqb number final_mark) number))
    (λ number. frame_of_gives frame due (eqb number final_mark) number)

frames_valued : (frame : ℕ) → Valued (λ fs. 4 * length fs + 2) (read_frames frame)
unfolding read_frames
frames_valued frame =
    run_valued 4 2 (read_next_frame frame) (λ done. frame_valued frame _) (frames_unbounded frame) (λ done. frame_takes frame _) (λ done. frame_steady frame _)

pub frames_into_valued : (frame room : ℕ) → Valued (λ fs. 4 * length fs + 2) (read_frames_into frame room)
unfolding read_frames_into
frames_into_valued frame room =
    test_valued 20 _ (bind_valued _ (frames_steady frame) (frames_valued frame) (λ fs. parts_valued (test_parts 23 _ (return_parts fs))) (λ fs. test_gives 23 _ (return_gives fs (omega arith))))
