-- How many places of a nonterminal a right side has, and how many records come of them: for the count of numbers.
use Rattle.std.proofs.Common.{◌≡◌, ◌+◌, ◌*◌, ◌∙◌, ℕ, List, [], ◌∷◌, ◌++◌, ap, arith, refl, sym}
use Rattle.std.proofs.Common.{suc, zero, true, false, length, map}
use Rattle.std.proofs.Common.{inl, inr, length-append}
use Rattle.std.specs.Prelude.{Bool, ◌||◌, flat_map, if◌then◌else◌}
use Rattle.std.specs.List.{list_any}
use Rattle.std.specs.Str.{bytes_eq}
use Rattle.std.proofs.lemmas.List.{length-map}
use Rattle.std.proofs.lemmas.Slice.Eq.{bytes_eq-Decides}
use Rattle.std.proofs.Math.Nat.{mul_comm}
use Rattle.lalrpop_grammar_symbols.specs.Symbols.{Text}
use Rattle.lalrpop_grammar_language.specs.Among.{Among}
use Rattle.lalrpop_grammar_language.proofs.PlaceLemmas.{among_map}
use Rattle.lalrpop_grammar_repr.specs.declared.action.InlinedSymbol.{InlinedSymbol}
use Rattle.lalrpop_grammar_repr.specs.declared.action.InlinedSymbol.TheVariants as inlined
use Rattle.lalrpop_grammar_repr.specs.declared.production.Production.{Production}
use Rattle.lalrpop_grammar_repr.specs.declared.production.Symbol.{Symbol}
use Rattle.lalrpop_grammar_repr.specs.declared.production.Symbol.TheVariants as symbols
use Rattle.lalrpop_lr1_inline.specs.InliningSteps.{is_place, record_entries, records_of, side_of_entry, side_of_record}
use Rattle.lalrpop_lr1_inline.specs.NumberCounts.{choices_at}
use Rattle.lalrpop_grammar_language.proofs.AmongLemmas.{among_flat_map}

-- how many places of the nonterminal there are
abbrev pub places : Text → List Symbol → ℕ
places n [] = 0
places n (s ∷ side) = if is_place n s then suc (places n side) else places n side

pub places-append : (n : Text) (xs ys : List Symbol) → places n (xs ++ ys) ≡ places n xs + places n ys
places-append n [] ys = omega arith
places-append n (s ∷ xs) ys = go (is_place n s) (places-append n xs ys)
  where
    go : (b : Bool) → places n (xs ++ ys) ≡ places n xs + places n ys →
        (if b then suc (places n (xs ++ ys)) else places n (xs ++ ys))
        ≡ (if b then suc (places n xs) else places n xs) + places n ys
    go true ih = omega (arith, ih)
    go false ih = ih

-- as many factors
abbrev factors : ℕ → ℕ → ℕ
factors many zero = 1
factors many (suc k) = many * factors many k

choices_by_places : (n : Text) (many : ℕ) (side : List Symbol) → choices_at n many side ≡ factors many (places n side)
choices_by_places n many [] = refl
choices_by_places n many (s ∷ side) = go (is_place n s) (choices_by_places n many side)
  where
    go : (b : Bool) → choices_at n many side ≡ factors many (places n side) →
        (if b then many * choices_at n many side else choices_at n many side)
        ≡ factors many (if b then suc (places n side) else places n side)
    go true ih = ap (λ k. many * k) ih
    go false ih = ih

-- the choices are told by the number of places
pub same_choices : (n : Text) (many : ℕ) (a b : List Symbol) → places n a ≡ places n b → choices_at n many a ≡ choices_at n many b
same_choices n many a b f = choices_by_places n many a ∙ ap (factors many) f ∙ sym (choices_by_places n many b)

any_suc : (n : Text) (side : List Symbol) (k : ℕ) → places n side ≡ suc k → list_any (is_place n) side ≡ true
any_suc n [] k f = absurd (omega (arith, f))
any_suc n (s ∷ side) k f = go (is_place n s) f (λ g. any_suc n side k g)
  where
    go : (b : Bool) → (if b then suc (places n side) else places n side) ≡ suc k →
        (places n side ≡ suc k → list_any (is_place n) side ≡ true) → (b || list_any (is_place n) side) ≡ true
    go true g ih = refl
    go false g ih = ih g

any_zero : (n : Text) (side : List Symbol) → places n side ≡ 0 → list_any (is_place n) side ≡ false
any_zero n [] f = refl
any_zero n (s ∷ side) f = go (is_place n s) f (λ g. any_zero n side g)
  where
    go : (b : Bool) → (if b then suc (places n side) else places n side) ≡ 0 →
        (places n side ≡ 0 → list_any (is_place n) side ≡ false) → (b || list_any (is_place n) side) ≡ false
    go true g ih = absurd (omega (arith, g))
    go false g ih = ih g

-- and so is whether there is one
pub same_any : (n : Text) (a b : List Symbol) → places n a ≡ places n b → list_any (is_place n) a ≡ list_any (is_place n) b
same_any n a b f = go (places n b) refl
  where
    go : (k : ℕ) → places n b ≡ k → list_any (is_place n) a ≡ list_any (is_place n) b
    go zero g = any_zero n a (f ∙ g) ∙ sym (any_zero n b g)
    go (suc k) g = any_suc n a k (f ∙ g) ∙ sym (any_suc n b k g)

-- how many records a right side has
longer_many : (es : List InlinedSymbol) (rs : List (List InlinedSymbol)) →
    length (flat_map (λ e. map (λ r. e ∷ r) rs) es) ≡ length es * length rs
longer_many [] rs = omega arith
longer_many (e ∷ es) rs =
    let front : length (map (λ r. e ∷ r) rs) ≡ length rs = length-map rs (λ (r : List InlinedSymbol). e ∷ r) in
    length-append (map (λ r. e ∷ r) rs) (flat_map (λ x. map (λ r. x ∷ r) rs) es)
    ∙ ap (λ k. k + length (flat_map (λ x. map (λ r. x ∷ r) rs) es)) front ∙ ap (λ k. length rs + k) (longer_many es rs)
    ∙ one_more (length es) (length rs)
  where
    one_more : (a b : ℕ) → b + a * b ≡ suc a * b
    one_more a b = omega (arith, mul_comm a b, mul_comm (suc a) b)

-- a right side has as many records as there are ways to replace its places
pub records_many : (n : Text) (ps : List Production) (side : List Symbol) →
    length (records_of n ps side) ≡ choices_at n (length ps) side
records_many n ps [] = refl
records_many n ps (s ∷ side) =
    longer_many (record_entries n ps s) (records_of n ps side) ∙ go (is_place n s) (records_many n ps side)
  where
    go : (b : Bool) → length (records_of n ps side) ≡ choices_at n (length ps) side →
        length (if b then map (λ (p : Production). inlined.Inlined p.action p.symbols) ps else inlined.Original s ∷ [])
        * length (records_of n ps side)
        ≡ (if b then length ps * choices_at n (length ps) side else choices_at n (length ps) side)
    go true ih =
        ap (λ k. k * length (records_of n ps side)) (length-map ps (λ (p : Production). inlined.Inlined p.action p.symbols))
        ∙ ap (λ k. length ps * k) ih
    go false ih = omega (arith, ih)

-- another nonterminal has no place in one's name
other_place : (n m x : Text) → (m ≡ n → ⊥) → bytes_eq x n ≡ true → bytes_eq x m ≡ false
other_place n m x apart e = go (bytes_eq x m) refl
  where
    go : (b : Bool) → bytes_eq x m ≡ b → bytes_eq x m ≡ false
    go false f = f
    go true f = absurd (apart (sym ((bytes_eq-Decides x m).0 f) ∙ (bytes_eq-Decides x n).0 e))

-- What a record may have for a symbol has as many places of another nonterminal, where the inlined productions have none.
entry_places : (n m : Text) (ps : List Production) → (m ≡ n → ⊥) →
    ((p : Production) → Among ps p → places m p.symbols ≡ 0) →
    (s : Symbol) (e : InlinedSymbol) → Among (record_entries n ps s) e → places m (side_of_entry e) ≡ places m (s ∷ [])
entry_places n m ps apart none (symbols.Terminal t) e (inl same) =
    ap (λ (x : InlinedSymbol). places m (side_of_entry x)) (sym same)
entry_places n m ps apart none (symbols.Terminal t) e (inr i) = absurd i
entry_places n m ps apart none (symbols.Nonterminal x) e i = go (bytes_eq x.0 n) refl i
  where
    go : (b : Bool) → bytes_eq x.0 n ≡ b →
        Among (if b then map (λ (p : Production). inlined.Inlined p.action p.symbols) ps
        else inlined.Original (symbols.Nonterminal x) ∷ []) e →
        places m (side_of_entry e) ≡ places m (symbols.Nonterminal x ∷ [])
    go true f j =
        let r = among_map (λ (p : Production). inlined.Inlined p.action p.symbols) ps e j in
        ap (λ (y : InlinedSymbol). places m (side_of_entry y)) (sym r.2) ∙ none r.0 r.1
        ∙ sym (ap (λ (b : Bool). if b then suc 0 else 0) (other_place n m x.0 apart f))
    go false f (inl same) = ap (λ (y : InlinedSymbol). places m (side_of_entry y)) (sym same)
    go false f (inr j) = absurd j

-- and so has what a record makes of a right side
pub record_places : (n m : Text) (ps : List Production) → (m ≡ n → ⊥) →
    ((p : Production) → Among ps p → places m p.symbols ≡ 0) →
    (side : List Symbol) (r : List InlinedSymbol) → Among (records_of n ps side) r → places m (side_of_record r) ≡ places m side
record_places n m ps apart none [] r (inl same) = ap (λ (q : List InlinedSymbol). places m (side_of_record q)) (sym same)
record_places n m ps apart none [] r (inr i) = absurd i
record_places n m ps apart none (s ∷ side) r i =
    let a = among_flat_map (λ e. map (λ q. e ∷ q) (records_of n ps side)) (record_entries n ps s) r i in
    let b = among_map (λ q. a.0 ∷ q) (records_of n ps side) r a.2 in
    let first = entry_places n m ps apart none s a.0 a.1 in
    let rest = record_places n m ps apart none side b.0 b.1 in
    ap (λ (q : List InlinedSymbol). places m (side_of_record q)) (sym b.2)
    ∙ places-append m (side_of_entry a.0) (side_of_record b.0) ∙ ap (λ k. k + places m (side_of_record b.0)) first
    ∙ ap (λ k. places m (s ∷ []) + k) rest ∙ sym (places-append m (s ∷ []) side)
