-- That the message has the bytes of items is a fact: it has one proof. Assumes nothing.
use Rattle.std.specs.Prelude.{List, [], ◌∷◌, ℕ, ◌*◌}
use Rattle.std.specs.Coded.{×_prop, Unit-prop, le_prop, Coded-set, coded_ℕ}
use Rattle.format.specs.Demand3.{Each}
use Rattle.text.specs.Put.{There, PartThere, All, ItemThere}

pub each_prop : {A : Type 0} (P : A → Type 0) → ((x : A) → IsProp (P x)) → (xs : List A) → IsProp (Each P xs)
each_prop P h [] = Unit-prop
each_prop P h (x ∷ xs) = ×_prop (h x) (each_prop P h xs)

pub all_prop : (P : ℕ → Type 0) → ((j : ℕ) → IsProp (P j)) → (k n j : ℕ) → IsProp (All P k n j)
all_prop P h k n j a b = λ i. record { each = each_prop P h _ a.each b.each i }

pub there_prop : (m : List ℕ) (start len : ℕ) → IsProp (There m start len)
there_prop m start len a b = λ i. record { whole = Coded-set coded_ℕ _ _ a.whole b.whole i }

pub part_prop : (m table : List ℕ) (j : ℕ) → IsProp (PartThere m table j)
part_prop m table j a b = λ i. record { numbers = le_prop a.numbers b.numbers i; bytes = there_prop m _ _ a.bytes b.bytes i }

pub item_prop : (m table : List ℕ) (n j : ℕ) → IsProp (ItemThere m table n j)
item_prop m table n j a b =
    λ i. record { numbers = le_prop a.numbers b.numbers i; parts = all_prop (PartThere m table) (part_prop m table) 2 n j a.parts b.parts i }

pub items_prop : (m table : List ℕ) (n count : ℕ) → IsProp (All (ItemThere m table n) (2 * n) count 0)
items_prop m table n count = all_prop (ItemThere m table n) (item_prop m table n) (2 * n) count 0
