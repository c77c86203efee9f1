-- The tables one after another.
use Rattle.std.proofs.Common.{◌≡◌, ℕ, zero, suc, ◌+◌, List, drop, sym, refl, ap, ◌∙◌, add-one}
use Rattle.format.specs.Table.{size, table_from}

-- the first table is where the tables are
pub table_first : (t : List ℕ) → table_from 0 t ≡ t
unfolding table_from
table_first t = refl

-- the next one begins where a table ends
table_suc : (p : ℕ) (t : List ℕ) → table_from (suc p) t ≡ drop (size (table_from p t)) (table_from p t)
unfolding table_from
table_suc zero t = refl
table_suc (suc p) t = table_suc p (drop (size t) t)

pub table_next : (p : ℕ) (t : List ℕ) → table_from (p + 1) t ≡ drop (size (table_from p t)) (table_from p t)
table_next p t = rw (add-one p) (table_suc p t)

-- a table that a walk over the tables reaches: at the start, and one further
pub table_start : (t bs : List ℕ) (a b : ℕ) → t ≡ drop a bs → a ≡ b → t ≡ table_from 0 (drop b bs)
table_start t bs a b h e = h ∙ ap (λ n. drop n bs) e ∙ sym (table_first (drop b bs))

pub table_step : (t u tables : List ℕ) (p n : ℕ) → t ≡ table_from p tables → n ≡ size t → u ≡ drop n t → u ≡ table_from (p + 1) tables
table_step t u tables p n h e k = k ∙ ap (λ m. drop m t) e ∙ ap (λ s. drop (size s) s) h ∙ sym (table_next p tables)
