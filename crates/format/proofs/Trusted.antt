-- A steady reader may be trusted. Assumes nothing.
use mathlib.Core.Path.{◌≡◌, refl, sym, ◌∙◌}
use mathlib.Core.Bool.{Bool, true, false}
use mathlib.Core.List.{List, [], ◌++◌}
use Prim.Native.Nat.{ℕ, ◌+◌, ◌-◌, ◌≤◌, ◌<◌}
use native.Mathlib.Omega.{arith}
use lib.Dec.{leb}
use lib.ListN.{length, take, drop, length-append, length-drop, drop_of_length-le, take-append-drop}
use lib.Seq.{drop-append-le, take-take, length-take-le}
use Rattle.format.specs.Read.{ReadResult, success, more_needed, error, Reader, Answer, accepted, refused, answer, operation}
use Rattle.format.specs.Refusals.{RefusesBy}
use Rattle.format.specs.Trusted.{TwoRuns, Trustworthy, Trust}
use Rattle.format.proofs.Tests.{is_leb, is_nleb}
use Rattle.format.proofs.Messages.{operation_here, operation_far, refused_is_no_accepted}
use Rattle.format.proofs.Listed.{refusals}
use Rattle.format.proofs.SteadyLaws.{Reaches, Grows, Steady}
use Rattle.format.proofs.Steady.{section_into_steady, find_steady, only_authenticated_steady, keys_into_steady, body_steady, reissued_steady, reissue_steady, auth_steady}
use Rattle.format.proofs.SteadyFrames.{frames_into_steady}

module _ {A : Type 0} where
  -- x is what a run answers, and y what one answers with more bytes, n' in all: TwoRuns, but for what a shortage names
  record Later (n' : ℕ) (x y : Answer A) : Type 0 where
    same : ((p : ℕ) → x ≡ refused 2 p → ⊥) → y ≡ x
    still : (p : ℕ) → x ≡ refused 2 p → n' < p → y ≡ refused 2 p
    behind : (a : A) (t : ℕ) → y ≡ accepted a t → (p : ℕ) → x ≡ refused 2 p → p ≤ t

  equal_later : (n' : ℕ) (x : Answer A) → Later n' x x
  equal_later n' x = record { same = λ h. refl; still = λ p e h. e; behind = λ a t e p f. refused_is_no_accepted (sym f ∙ e) }

  grown_later : (n' : ℕ) (e : List ℕ) (s n : ℕ) → n + length e ≡ n' → (x y : ReadResult A) → Grows e s n x y → Later n' (answer x) (answer y)
  grown_later n' e s n d (success a l t) y g = rw g.0 (equal_later n' (accepted a t))
  grown_later n' e s n d (more_needed p) y (g, f) = record { same = λ h. absurd (h p refl); still = still; behind = behind y f }
    where
      named : (q : ℕ) → ◌≡◌ {A = Answer A} (refused 2 p) (refused 2 q) → p ≡ q
      named q e = cc

      still : (q : ℕ) → ◌≡◌ {A = Answer A} (refused 2 p) (refused 2 q) → n' < q → answer y ≡ refused 2 q
      still q e h = let z = named q e in rw (g (omega arith), z) refl

      behind : (y : ReadResult A) → Reaches p y → (a : A) (t : ℕ) → answer y ≡ accepted a t → (q : ℕ) → ◌≡◌ {A = Answer A} (refused 2 p) (refused 2 q) → q ≤ t
      behind (success b l u) f a t e q h = let z = named q h in let w : u ≡ t = cc in omega arith
      behind (more_needed u) f a t e q h = refused_is_no_accepted e
      behind (error k) f a t e q h = refused_is_no_accepted e
  grown_later n' e s n d (error k) y g = rw g (equal_later n' (refused k 0))

  module _ {r : Reader A} (hr : Steady r) where
    -- the start lies in the short message; in the longer one alone; in neither
    later_at : (m e : List ℕ) (s : ℕ) → Later (length (m ++ e)) (answer (r (drop s m) s)) (answer (r (drop s (m ++ e)) s))
    later_at m e s = go (leb s (length m)) refl (leb s (length (m ++ e))) refl
      where
        go : (b : Bool) → leb s (length m) ≡ b → (c : Bool) → leb s (length (m ++ e)) ≡ c → Later (length (m ++ e)) (answer (r (drop s m) s)) (answer (r (drop s (m ++ e)) s))
        go true h c k =
            let d = length-append m e in
            let a : s ≤ length m = is_leb _ _ h in
            let f : length (drop s m) ≡ length m - s = length-drop s m in
            rw (drop-append-le s m e a) (grown_later (length (m ++ e)) e s (s + length (drop s m)) (omega arith) (r (drop s m) s) (r (drop s m ++ e) s) (hr.grows (drop s m) e s))
        go false h true k =
            let z : length m < s = is_nleb _ _ h in
            let a : length m ≤ s = omega arith in
            let b : s ≤ length (m ++ e) = is_leb _ _ k in
            let f : length (drop s (m ++ e)) ≡ length (m ++ e) - s = length-drop s (m ++ e) in
            rw (drop_of_length-le m a) (grown_later (length (m ++ e)) (drop s (m ++ e)) s (s + 0) (omega arith) (r [] s) (r (drop s (m ++ e)) s) (hr.grows [] (drop s (m ++ e)) s))
        go false h false k =
            let d = length-append m e in
            let z : length (m ++ e) < s = is_nleb _ _ k in
            let a : length m ≤ s = omega arith in
            let b : length (m ++ e) ≤ s = omega arith in
            rw (drop_of_length-le m a, drop_of_length-le (m ++ e) b) (equal_later (length (m ++ e)) (answer (r [] s)))

    later : (m e : List ℕ) (s : ℕ) → length (m ++ e) ≤ 4294967295 → Later (length (m ++ e)) (operation r m s) (operation r (m ++ e) s)
    later m e s h = go (leb s 4294967295) refl
      where
        go : (b : Bool) → leb s 4294967295 ≡ b → Later (length (m ++ e)) (operation r m s) (operation r (m ++ e) s)
        go true k =
            let z : s ≤ 4294967295 = is_leb _ _ k in
            let d = length-append m e in
            rw (operation_here r m s (omega arith) z, operation_here r (m ++ e) s h z) (later_at m e s)
        go false k = let z : 4294967295 < s = is_nleb _ _ k in rw (operation_far r m s z, operation_far r (m ++ e) s z) (equal_later (length (m ++ e)) (refused 1 0))

module _ {A : Type 0} {r : Reader A} {listed : List ℕ} (hr : Steady r) (by : RefusesBy listed r) where
  above : (m : List ℕ) (s p : ℕ) → operation r m s ≡ refused 2 p → length m < p
  above m s p e = (by m s 2 p e).wanted refl

  two_runs : (m e : List ℕ) (s : ℕ) → length (m ++ e) ≤ 4294967295 → TwoRuns (refused 2) (length m) (length (m ++ e)) (operation r m s) (operation r (m ++ e) s)
  two_runs m e s h =
      let w = later hr m e s h in
      record {
        same = w.same;
        above = λ p f. above m s p f;
        still = w.still;
        onward = λ p f g q j. (let z = above (m ++ e) s q j in omega arith);
      }

  module _ (m : List ℕ) (s : ℕ) (fits : length m ≤ 4294967295) where
    with_whole : (n : ℕ) → n ≤ length m → TwoRuns (refused 2) n (length m) (operation r (take n m) s) (operation r m s)
    with_whole n h = rw (take-append-drop n m, length-take-le n m h) at (two_runs (take n m) (drop n m) s (rw (take-append-drop n m) fits))

    behind : (a : A) (t : ℕ) → operation r m s ≡ accepted a t → (n : ℕ) → n ≤ length m → (p : ℕ) → operation r (take n m) s ≡ refused 2 p → p ≤ t
    behind a t e n h p f =
        let w : Later (length m) (operation r (take n m) s) (operation r m s) = rw (take-append-drop n m) at (later hr (take n m) (drop n m) s (rw (take-append-drop n m) fits)) in
        w.behind a t e p f

  pub trusted : Trustworthy r
  trusted m s fits =
      record {
        whole = with_whole m s fits;
        longer = λ n n' h k. longer n n' h k;
        none_behind = behind m s fits;
        enough = λ a t e n h k. sym ((with_whole m s fits n k).same (λ p f. (let z = behind m s fits a t e n k p f in let y = above (take n m) s p f in let x = length-take-le n m k in absurd (omega arith)))) ∙ e;
      }
    where
      longer : (n n' : ℕ) → n ≤ n' → n' ≤ length m → TwoRuns (refused 2) n n' (operation r (take n m) s) (operation r (take n' m) s)
      longer n n' h k =
          let d : length (take n' m) ≡ n' = length-take-le n' m k in
          rw (take-take n n' m h, d) at (with_whole (take n' m) s (omega arith) n (omega arith))

pub trust : Trust
trust =
    record {
      of_body = λ q. trusted (body_steady q) (refusals.of_body q);
      of_context = λ mode room. trusted (section_into_steady mode room) (refusals.of_context mode room);
      of_keys = λ max room. trusted (keys_into_steady max room) (refusals.of_keys max room);
      of_frames = λ frame room. trusted (frames_into_steady frame room) (refusals.of_frames frame room);
      of_auth = λ suite. trusted (auth_steady suite) (refusals.of_auth suite);
      of_find = λ k. trusted (find_steady k) (refusals.of_find k);
      of_only_authenticated = λ text required room. trusted (only_authenticated_steady text required room) (refusals.of_only_authenticated text required room);
      of_reissued = λ a. trusted (reissued_steady a) (refusals.of_reissued a);
      of_reissue = λ a room. trusted (reissue_steady a room) (refusals.of_reissue a room);
    }
