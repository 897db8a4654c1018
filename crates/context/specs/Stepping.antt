-- What the steps of reading pairs with the index of their keys say to each other. Assumes nothing.
use Rattle.std.specs.Prelude.{◌≡◌, Bool, true, false, List, [], ℕ, suc, ◌+◌, ◌≤◌, ◌<◌, length, Result, Ok, Err}
use Rattle.format.specs.Read.{end_at, at, repeat}
use Rattle.format.specs.Context.{read_next_aad_pair}
use Rattle.format.specs.Places.{pair_here, pair_end, pairs_here, pairs_end}
use Rattle.entries.specs.Walk.{Walk}
use Rattle.entries.specs.Codes.{next_of}
use Rattle.wire.specs.declared.SuccessfulRead.{SuccessfulRead}
use Rattle.wire.specs.declared.refusals.Refusal.{Refusal}
use Rattle.pair_index.specs.Index.{Indexed}

-- a section's pairs stand from `first` to `end` at most, in the message, and take fewer than 65,534 bytes
pub record Space (m : List ℕ) (first end : ℕ) : Type 0 where
  pub near : end < first + 65534
  pub inside : end ≤ length m

-- n pairs from `first` on end at s, the index has their keys, and it has room for one more
pub record Onward (m : List ℕ) (first end n s : ℕ) (keys : List ℕ) : Type 0 where
  pub space : Space m first end
  pub here : s ≡ pairs_end m n first
  pub held : s ≤ end
  pub room : n < length keys
  pub index : Indexed m first n keys

-- one more pair was read, which ends at t, and the index has its key
pub record Grown (m : List ℕ) (first end n : ℕ) (keys : List ℕ) (t : ℕ) : Type 0 where
  pub index : Indexed m first (suc n) keys
  pub held : t ≤ end

abbrev pub After : List ℕ → ℕ → ℕ → ℕ → List ℕ → Result ℕ Refusal → Type 0
After m first end n keys (Ok t) = Grown m first end n keys t
After m first end n keys (Err r) = Unit {0}

-- the answer is the definition's, and the index follows it
pub record Stepped (m : List ℕ) (first end n s : ℕ) (keys : List ℕ) (r : Result ℕ Refusal) : Type 0 where
  pub answer : r ≡ next_of (at (read_next_aad_pair (end_at end) (pairs_here m n first)) m s)
  pub after : After m first end n keys r

-- i of n pairs were read, which end at s, and the index has room for their keys and has them
pub record Reached (m : List ℕ) (first end n i s : ℕ) (keys : List ℕ) : Type 0 where
  pub space : Space m first end
  pub walk : Walk (read_next_aad_pair (end_at end)) pair_here pair_end m first n i s
  pub held : s ≤ end
  pub room : i ≤ length keys
  pub index : Indexed m first i keys

abbrev pub UpTo : List ℕ → ℕ → ℕ → ℕ → ℕ → List ℕ → Result ℕ Refusal → Type 0
UpTo m first end n i keys (Ok t) = Reached m first end n i t keys
UpTo m first end n i keys (Err r) = ◌≡◌ {A = Result ℕ Refusal} (Err r) (next_of (at (repeat n (read_next_aad_pair (end_at end)) []) m first))

-- r is the place where i of n pairs end, or it is the whole reading's refusal
pub record ReadUpTo (m : List ℕ) (first end n i : ℕ) (keys : List ℕ) (r : Result ℕ Refusal) : Type 0 where
  pub up_to : UpTo m first end n i keys r

-- an index that is lent is small enough to grow, or it has as many places as any section needs
pub record Lendable (room : ℕ) : Type 0 where
  pub grows : room < 16384 → room ≤ 512

-- an index of that many places has room for n pairs: they are not more, or it has as many as any section needs
abbrev pub Roomy : ℕ → ℕ → Type 0
Roomy room n = room < 16384 → n ≤ room

-- r: whether it has room for n pairs, or would have to grow
pub record HasRoom (room n : ℕ) (r : Bool) : Type 0 where
  pub enough : r ≡ true → Roomy room n
  pub small : r ≡ false → room < 16384
  pub less : r ≡ false → room < n

-- the index has room for the n pairs, and has them
pub record HasPairs (m : List ℕ) (first n : ℕ) (keys : List ℕ) : Type 0 where
  pub room : n ≤ length keys
  pub indexed : Indexed m first n keys

abbrev pub AfterAll : List ℕ → ℕ → ℕ → ℕ → List ℕ → Result ℕ Refusal → Type 0
AfterAll m first n room keys (Ok t) = Roomy room n → HasPairs m first n keys
AfterAll m first n room keys (Err r) = Unit {0}

-- r is where n pairs from `first` on end, or their refusal; and an index that has room for them has them
pub record ReadAll (m : List ℕ) (first end n room : ℕ) (keys : List ℕ) (r : Result ℕ Refusal) : Type 0 where
  pub answer : r ≡ next_of (at (repeat n (read_next_aad_pair (end_at end)) []) m first)
  pub after : AfterAll m first n room keys r

-- the same of a section that was read
abbrev pub AfterSection : List ℕ → ℕ → ℕ → List ℕ → Result (SuccessfulRead ℕ) Refusal → Type 0
AfterSection m first room keys (Ok r) = Roomy room r.value → HasPairs m first r.value keys
AfterSection m first room keys (Err q) = Unit {0}

pub record Indexes (m : List ℕ) (first room : ℕ) (keys : List ℕ) (r : Result (SuccessfulRead ℕ) Refusal) : Type 0 where
  pub after : AfterSection m first room keys r
