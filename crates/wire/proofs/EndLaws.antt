-- The ways out of the functions that read up to an end, one law each. Assumes nothing.
use Prim.Native.Nat.{ℕ, suc, ◌+◌, ◌≤◌, ◌<◌}
use mathlib.Core.Path.{◌≡◌, refl, ap, ◌∙◌}
use mathlib.Core.Bool.{Bool, true, false, cond}
use mathlib.Core.Logic.{◌⊎◌, inl, inr}
use mathlib.Core.List.{List}
use native.Mathlib.Omega.{arith}
use lib.Dec.{ltb}
use lib.ListN.{length}
use Rattle.std.specs.Prelude.{Option, Result, Ok, Err}
use Rattle.format.specs.Read.{no_end, end_at, past, Answer, refused, at}
use Rattle.format.specs.Read.{End as Bound}
use Rattle.format.specs.Serialize.{Part, read_short_length_seq}
use Rattle.format.specs.Places.{number16, entry_end}
use Rattle.format.proofs.Tests.{nleb_is, is_leb, is_nleb}
use Rattle.steps.proofs.Numbers.{length_part}
use Rattle.steps.proofs.Entries.{entry_past_length, entry_no_length, entry_past_bytes, entry_short, entry_got}
use Rattle.wire.specs.Codes.{span_of, end_of, limit_of, beyond_of}
use Rattle.wire.specs.declared.refusals.Refusal.{Refusal}
use Rattle.wire.specs.declared.Span.{Span}

-- a place beyond the limit lies past the end or else past the message; a place up to it past neither
beyond_limit : (b : Bound) (n t : ℕ) → limit_of b n < t → (past b t ≡ true) ⊎ ((past b t ≡ false) × (n < t))
beyond_limit no_end n t h = inr (refl, h)
beyond_limit (end_at e) n t h = by (ltb e n) refl h (ltb e t) refl
  where
    by : (c : Bool) → ltb e n ≡ c → cond c e n < t → (d : Bool) → ltb e t ≡ d → (ltb e t ≡ true) ⊎ ((ltb e t ≡ false) × (n < t))
    by c i h true j = inl j
    by true i h false j = let k : t < suc e = is_nleb (suc e) t j in absurd (omega arith)
    by false i h false j = inr (j, h)

within_limit : (b : Bound) (n t : ℕ) → t ≤ limit_of b n → (past b t ≡ false) × (t ≤ n)
within_limit no_end n t h = (refl, h)
within_limit (end_at e) n t h = by (ltb e n) refl h
  where
    by : (c : Bool) → ltb e n ≡ c → t ≤ cond c e n → (ltb e t ≡ false) × (t ≤ n)
    by true i h = let k : e < n = is_leb (suc e) n i in (nleb_is (suc e) t (omega arith), omega arith)
    by false i h = let k : n < suc e = is_nleb (suc e) n i in (nleb_is (suc e) t (omega arith), omega arith)

-- an entry
module _ (m : List ℕ) (s : ℕ) (x : Option ℕ) (to : ℕ) (is : to ≡ limit_of (end_of x) (length m)) where
  abbrev read : Answer Part
  read = at (read_short_length_seq (end_of x)) m s

  -- a refusal beyond the limit, by why
  refuses : (t : ℕ) → to < t → (past (end_of x) t ≡ true → read ≡ refused 32 0) → (past (end_of x) t ≡ false → length m < t → read ≡ refused 2 t)
      → (q : Refusal) → q ≡ beyond_of (end_of x) t → ◌≡◌ {A = Result Span Refusal} (Err q) (span_of read)
  refuses t h long short q f = by (beyond_limit (end_of x) (length m) t (rw is at h))
    where
      by : (past (end_of x) t ≡ true) ⊎ ((past (end_of x) t ≡ false) × (length m < t)) → ◌≡◌ {A = Result Span Refusal} (Err q) (span_of read)
      by (inl g) = rw (f, g, long g) refl
      by (inr (g, k)) = rw (f, g, short g k) refl

  held : (t : ℕ) → t ≤ to → (past (end_of x) t ≡ false) × (t ≤ length m)
  held t h = within_limit (end_of x) (length m) t (rw is at h)

  pub entry_cut_length : to < s + 2 → (q : Refusal) → q ≡ beyond_of (end_of x) (s + 2) → ◌≡◌ {A = Result Span Refusal} (Err q) (span_of read)
  entry_cut_length h q f = refuses (s + 2) h (entry_past_length (end_of x) m s) (entry_no_length (end_of x) m s) q f

  module _ (h : s + 2 ≤ to) where
    pub entry_has_length : s + 2 ≤ length m
    entry_has_length = (held (s + 2) h).1

    module _ (n : ℕ) (len : n ≡ number16 m s) where
      pub entry_cut_bytes : to < s + 2 + n → (q : Refusal) → q ≡ beyond_of (end_of x) (s + 2 + n) → ◌≡◌ {A = Result Span Refusal} (Err q) (span_of read)
      entry_cut_bytes k q f =
          let (a, b) = held (s + 2) h in
          let e : s + 2 + n ≡ entry_end m s = ap (λ (i : ℕ). s + 2 + i) len in
          refuses (entry_end m s) (rw (← e) k) (entry_past_bytes (end_of x) m s a b) (entry_short (end_of x) m s a b) q (f ∙ ap (beyond_of (end_of x)) e)

      pub entry_whole : s + 2 + n ≤ to → ◌≡◌ {A = Result Span Refusal} (Ok (record { start = s + 2; len = n; tail = s + 2 + n })) (span_of read)
      entry_whole k =
          let e : s + 2 + n ≡ entry_end m s = ap (λ (i : ℕ). s + 2 + i) len in
          let (a, b) = held (entry_end m s) (rw (← e) k) in
          rw (entry_got (end_of x) m s a b, length_part m (s + 2) (number16 m s) b, len) refl
