-- The code's answers and a reader's: making one, and taking one apart. Assumes nothing.
use Prim.Native.Nat.{ℕ, suc, ◌+◌, ◌<◌, ◌^◌}
use mir.Syntax.{w8, w32}
use mir.Val.{Fits}
use mathlib.Core.Path.{◌≡◌, sym, ap, ◌∙◌}
use mathlib.Core.Bool.{Bool, true, false}
use mathlib.Core.List.{List, [], ◌∷◌}
use native.Mathlib.Omega.{arith}
use lib.ListN.{length, get_or}
use Rattle.format.specs.Read.{Reader, Answer, accepted, refused, at, addressable, operation}
use Rattle.format.specs.Serialize.{Bytes, Part}
use Rattle.steps.proofs.Operations.{reach, operation_guarded, operation_reached}
use Rattle.std.specs.Prelude.{Result, Ok, Err}
use Rattle.wire.specs.Codes.{because, read_of, number_of, span_of, Below}
use Rattle.wire.specs.declared.refusals.Refusal.{Refusal}
use Rattle.wire.specs.declared.SuccessfulRead.{SuccessfulRead}
use Rattle.wire.specs.declared.Span.{Span}

-- the elements of a message are bytes
pub bytes_of : (m : List ℕ) → ((i : ℕ) → Fits w8 (get_or m i 0)) → Bytes m
bytes_of [] h = tt
bytes_of (x ∷ l) h = ((h 0).fits, bytes_of l (λ i. h (suc i)))

-- what was read
module _ {A T : Type 0} (f : A → T) (o : Answer A) where
  pub is_read : (v : T) (a : A) (t : ℕ) → v ≡ f a → o ≡ accepted a t → ◌≡◌ {A = Result (SuccessfulRead T) Refusal} (Ok (record { value = v; tail = t })) (read_of f o)
  is_read v a t p e = rw (p, e)

  pub not_read : (q : Refusal) (k p : ℕ) → q ≡ because k p → o ≡ refused k p → ◌≡◌ {A = Result (SuccessfulRead T) Refusal} (Err q) (read_of f o)
  not_read q k p g e = rw (g, e)

  pub read_as : (o' : Answer A) (x : Result (SuccessfulRead T) Refusal) → x ≡ read_of f o → o ≡ o' → x ≡ read_of f o'
  read_as o' x e g = e ∙ ap (read_of f) g

  pub record Got (r : SuccessfulRead T) : Type 0 where
    pub item : A
    pub is : o ≡ accepted item r.tail
    pub gives : f item ≡ r.value

pub read_got : {A T : Type 0} (f : A → T) (o : Answer A) (x : Result (SuccessfulRead T) Refusal) → x ≡ read_of f o → (r : SuccessfulRead T) → x ≡ Ok r → Got f o r
read_got f (accepted a u) x e r b = let z : ◌≡◌ {A = SuccessfulRead _} (record { value = f a; tail = u }) r = cc in record { item = a; is = ap (λ s. accepted a s.tail) z; gives = ap (λ s. s.value) z }
read_got f (refused k p) x e r b = cc

pub read_no : {A T : Type 0} (f : A → T) (o : Answer A) (x : Result (SuccessfulRead T) Refusal) → x ≡ read_of f o → (q : Refusal) → x ≡ Err q → o ≡ refused q.number q.position
read_no f (accepted a u) x e q b = cc
read_no f (refused k p) x e q b = let z : because k p ≡ q = cc in rw (← z)

-- a number
pub number_got : (o : Answer ℕ) (x : Result (SuccessfulRead ℕ) Refusal) → x ≡ number_of o → (r : SuccessfulRead ℕ) → x ≡ Ok r → o ≡ accepted r.value r.tail
number_got o x e r b = let g = read_got (λ v. v) o x e r b in g.is ∙ ap (λ v. accepted v r.tail) g.gives

pub number_no : (o : Answer ℕ) (x : Result (SuccessfulRead ℕ) Refusal) → x ≡ number_of o → (q : Refusal) → x ≡ Err q → o ≡ refused q.number q.position
number_no o x e q b = read_no (λ v. v) o x e q b

pub below_is : (n : ℕ) (x : Result (SuccessfulRead ℕ) Refusal) → Below n x → (r : SuccessfulRead ℕ) → x ≡ Ok r → r.value < n
below_is n x h r b = rw b at h

-- a part
pub is_span : (o : Answer Part) (s n t : ℕ) (p : Part) → o ≡ accepted p t → p.start ≡ s → length p.bytes ≡ n → ◌≡◌ {A = Result Span Refusal} (Ok (record { start = s; len = n; tail = t })) (span_of o)
is_span o s n t p e f g = rw (e, f, g)

pub not_span : (o : Answer Part) (q : Refusal) (k p : ℕ) → q ≡ because k p → o ≡ refused k p → ◌≡◌ {A = Result Span Refusal} (Err q) (span_of o)
not_span o q k p f e = rw (f, e)

pub span_as : (o o' : Answer Part) (x : Result Span Refusal) → x ≡ span_of o → o ≡ o' → x ≡ span_of o'
span_as o o' x e f = e ∙ ap span_of f

pub record Given (o : Answer Part) (x : Span) : Type 0 where
  pub item : Part
  pub is : o ≡ accepted item x.tail
  pub from : item.start ≡ x.start
  pub long : length item.bytes ≡ x.len

pub span_got : (o : Answer Part) (x : Result Span Refusal) → x ≡ span_of o → (r : Span) → x ≡ Ok r → Given o r
span_got (accepted p u) x e r b =
    let z : ◌≡◌ {A = Span} (record { start = p.start; len = length p.bytes; tail = u }) r = cc in
    record { item = p; is = ap (λ s. accepted p s.tail) z; from = ap (λ s. s.start) z; long = ap (λ s. s.len) z }
span_got (refused k p) x e r b = cc

pub span_no : (o : Answer Part) (x : Result Span Refusal) → x ≡ span_of o → (q : Refusal) → x ≡ Err q → o ≡ refused q.number q.position
span_no (accepted w u) x e q b = cc
span_no (refused k p) x e q b = let z : because k p ≡ q = cc in rw (← z)

-- the guard, by the code's test of it
module _ (m : List ℕ) (s : ℕ) (b : Bool) (is : b ≡ addressable m s) where
  pub near : b ≡ true → s < 4294967296
  near e = let z = reach m s (sym is ∙ e) in omega arith

  -- a place 32 bits behind the start
  pub near_sum : (n : ℕ) → b ≡ true → Fits w32 n → s + n < 2 ^ 64
  near_sum n e f = let z = near e in let y = f.fits in omega arith

  pub small : b ≡ true → length m < 4294967296
  small e = let z = reach m s (sym is ∙ e) in omega arith

  pub opened : {A : Type 0} (r : Reader A) → b ≡ true → at r m s ≡ operation r m s
  opened r e = sym (operation_reached r m s (sym is ∙ e))

  pub guarded : {A : Type 0} (r : Reader A) → b ≡ false → operation r m s ≡ refused 1 0
  guarded r e = operation_guarded r m s (sym is ∙ e)
