-- A section: a count and so many items, each of e entries; what the code's answer says of it, and the ways out of its reader with a table.
-- Assumes nothing.
use mathlib.Core.Path.{◌≡◌, sym, ap, ◌∙◌}
use mathlib.Core.List.{List, []}
use Prim.Native.Nat.{ℕ, zero, suc, ◌+◌, ◌*◌, ◌≤◌, ◌<◌}
use native.Mathlib.Nat.{mul-zero}
use native.Mathlib.Omega.{arith}
use borrow.Author.Tests.{le-leb, lt-leb}
use lib.Dec.{leb}
use lib.ListN.{length}
use Rattle.std.specs.Prelude.{Result, Ok, Err}
use Rattle.format.specs.Read.{Reader, ◌>>=◌, ◌>>◌, return, test, repeat, Answer, accepted, refused, at}
use Rattle.format.specs.Serialize.{Part, images}
use Rattle.format.specs.Lent.{place, filled}
use Rattle.steps.proofs.Tidy.{Tidy}
use Rattle.steps.proofs.Steps.{go, stop, pass, fail, gives}
use Rattle.format.specs.Places.{items_here, items_end, entries_here, entries_end}
use Rattle.wire.specs.Codes.{because}
use Rattle.wire.specs.declared.refusals.Refusal.{Refusal}
use Rattle.wire.specs.declared.SuccessfulRead.{SuccessfulRead}
use Rattle.wire.proofs.Answers.{read_got, read_no}
use Rattle.entries.specs.Codes.{Reads, counted}
use Rattle.entries.proofs.Items.{Made, end_entries, here_entries}
use Rattle.entries.proofs.Walk.{Kind, all_known, all_length}
use Rattle.entries.proofs.Tables.{refuses, accepts}

-- the items that were read stand from a place on
pub record Holds {A : Type 0} (here : List ℕ → ℕ → A) (end : List ℕ → ℕ → ℕ) (m : List ℕ) (first : ℕ) (items : List A) (t : ℕ) : Type 0 where
  pub are : items ≡ items_here here end m (length items) first
  pub inside : 0 < length items → items_end end m (length items) first ≤ length m
  pub within : t ≤ length m

pub all_hold : {A : Type 0} {step : List A → Reader A} {here : List ℕ → ℕ → A} {end : List ℕ → ℕ → ℕ} → Kind step here end
    → (m : List ℕ) (n s first : ℕ) → s ≡ first → s ≤ length m → (out : List A) (t : ℕ) → at (repeat n step []) m s ≡ accepted out t → Holds here end m first out t
all_hold kind m n s first from h out t e =
    let run = all_known kind m n s h out t e in
    let long : length out ≡ n = all_length kind m n s h out t e in
    record { are = rw long (run.are ∙ rw from); inside = λ _. rw (long, ← from, ← run.tail) run.within; within = run.within }

-- what the code's answer says of them
pub record Counted {A : Type 0} (o : Answer (List A)) (n t : ℕ) : Type 0 where
  pub items : List A
  pub is : o ≡ accepted items t
  pub long : length items ≡ n

module _ {A : Type 0} (o : Answer (List A)) (a : Result (SuccessfulRead ℕ) Refusal) (is : a ≡ counted o) where
  pub counted_got : (r : SuccessfulRead ℕ) → a ≡ Ok r → Counted o r.value r.tail
  counted_got r b = let g = read_got length o a is r b in record { items = g.item; is = g.is; long = g.gives }

  pub counted_no : (q : Refusal) → a ≡ Err q → o ≡ refused q.number q.position
  counted_no q b = read_no length o a is q b

-- A reader of items with a table: refusal k where it is too short for w numbers an item
abbrev pub into : {A : Type 0} → Reader (List A) → ℕ → ℕ → ℕ → Reader (List A)
into r k w room = do
  l ← r
  test k (leb (w * length l) room)
  return l

-- its ways out, by what the code's answer without the table was
module _ {A : Type 0} {r : Reader (List A)} (tidy : Tidy r) (numbers : List A → List ℕ)
    (m : List ℕ) (start : ℕ) (a : Result (SuccessfulRead ℕ) Refusal) (aIs : a ≡ counted (at r m start)) (k w : ℕ) (table : List ℕ) where
  abbrev pub Tabled : List ℕ → Result (SuccessfulRead ℕ) Refusal → Type 0
  Tabled = Reads counted numbers (at (into r k w (length table)) m start) table

  pub tabled_not : (q : Refusal) → a ≡ Err q → Tabled table (Err q)
  tabled_not q b =
      let z = counted_no (at r m start) a aIs q b in
      refuses counted _ _ table (Err q) q.number q.position (stop _ tidy m start _ _ z) (sym b ∙ aIs ∙ ap counted z)

  module _ (x : SuccessfulRead ℕ) (b : a ≡ Ok x) where
    pub tabled_short : length table < w * x.value → (q : Refusal) → q ≡ because k 0 → Tabled table (Err q)
    tabled_short g q f =
        let c = counted_got (at r m start) a aIs x b in
        let short : length table < w * length c.items = rw c.long g in
        refuses counted _ _ table (Err q) k 0 (go _ tidy m start c.items x.tail c.is ∙ fail k _ _ m x.tail (lt-leb _ _ short)) (rw f)

    pub tabled_whole : w * x.value ≤ length table → (after : List ℕ) → ((l : List A) → at r m start ≡ accepted l x.tail → length l ≡ x.value → after ≡ filled (numbers l) table) → Tabled after (Ok x)
    tabled_whole g after f =
        let c = counted_got (at r m start) a aIs x b in
        let room : w * length c.items ≤ length table = rw c.long g in
        accepts counted _ _ table (Ok x) c.items x.tail
        (go _ tidy m start c.items x.tail c.is ∙ pass k _ _ m x.tail (le-leb _ _ room) ∙ gives c.items m x.tail)
        (sym b ∙ aIs ∙ ap counted c.is)
        after
        (f c.items c.is c.long)

-- a reader of such a section, whose items stand d bytes behind its start
pub record Section {A : Type 0} (here : List ℕ → ℕ → A) (end : List ℕ → ℕ → ℕ) (places : A → List Part) (e d : ℕ) (r : Reader (List A)) : Type 0 where
  pub made : Made here end places e
  pub tidy : Tidy r
  pub known : (m : List ℕ) (s : ℕ) (l : List A) (t : ℕ) → at r m s ≡ accepted l t → Holds here end m (s + d) l t

-- an accepted section
pub record Had {A : Type 0} (here : List ℕ → ℕ → A) (end : List ℕ → ℕ → ℕ) (places : A → List Part) (e : ℕ) (m : List ℕ) (first : ℕ) (o : Answer (List A)) (n t : ℕ) : Type 0 where
  pub items : List A
  pub is : o ≡ accepted items t
  pub long : length items ≡ n
  pub within : t ≤ length m
  pub are : items ≡ items_here here end m n first
  pub inside : 0 < n → items_end end m n first ≤ length m
  pub entries : 0 < e * n → entries_end m (e * n) first ≤ length m
  pub numbers : images place (entries_here m (e * n) first) ≡ images place (images places items)

some : (e n : ℕ) → 0 < e * n → 0 < n
some e zero h = let z : 0 < 0 = rw (mul-zero e) at h in absurd (omega arith)
some e (suc n) h = omega arith

module _ {A : Type 0} {here : List ℕ → ℕ → A} {end : List ℕ → ℕ → ℕ} {places : A → List Part} {e d : ℕ} {r : Reader (List A)}
    (section : Section here end places e d r) (m : List ℕ) (start : ℕ) (a : Result (SuccessfulRead ℕ) Refusal) (aIs : a ≡ counted (at r m start)) where
  here_are : (n t : ℕ) (l : List A) → at r m start ≡ accepted l t → length l ≡ n → l ≡ items_here here end m n (start + d)
  here_are n t l is long = rw long at (section.known m start l t is).are

  numbers_are : (n t : ℕ) (l : List A) → at r m start ≡ accepted l t → length l ≡ n → images place (entries_here m (e * n) (start + d)) ≡ images place (images places l)
  numbers_are n t l is long = ap (images place) (sym (ap (images places) (here_are n t l is long) ∙ here_entries section.made m n (start + d)))

  pub had : (x : SuccessfulRead ℕ) → a ≡ Ok x → Had here end places e m (start + d) (at r m start) x.value x.tail
  had x b =
      let c = counted_got (at r m start) a aIs x b in
      let h = section.known m start c.items x.tail c.is in
      let inside : 0 < x.value → items_end end m x.value (start + d) ≤ length m = rw c.long at h.inside in
      record {
        items = c.items;
        is = c.is;
        long = c.long;
        within = h.within;
        are = here_are x.value x.tail c.items c.is c.long;
        inside = inside;
        entries = λ g. rw (end_entries section.made m x.value (start + d)) at (inside (some e x.value g));
        numbers = numbers_are x.value x.tail c.items c.is c.long;
      }

  module _ (k w : ℕ) (table : List ℕ) where
    abbrev pub Into : List ℕ → Result (SuccessfulRead ℕ) Refusal → Type 0
    Into = Reads counted (λ l. images place (images places l)) (at (into r k w (length table)) m start) table

    pub into_not : (q : Refusal) → a ≡ Err q → Into table (Err q)
    into_not = tabled_not section.tidy _ m start a aIs k w table

    module _ (x : SuccessfulRead ℕ) (b : a ≡ Ok x) where
      pub into_short : length table < w * x.value → (q : Refusal) → q ≡ because k 0 → Into table (Err q)
      into_short = tabled_short section.tidy _ m start a aIs k w table x b

      pub into_whole : w * x.value ≤ length table → (after : List ℕ) → after ≡ filled (images place (entries_here m (e * x.value) (start + d))) table
          → Into after (Ok x)
      into_whole g after f =
          tabled_whole section.tidy _ m start a aIs k w table x b g after
          (λ l is long. f ∙ ap (λ (ns : List ℕ). filled ns table) (numbers_are x.value x.tail l is long))
