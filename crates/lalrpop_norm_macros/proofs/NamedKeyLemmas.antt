-- Keys and their names at the same place, and symbols written one after another; for the functions that write symbols.
use Rattle.std.proofs.lemmas.Bool.{true≢false}
use Rattle.std.proofs.lemmas.Option.{get_or_from_slice_get, slice_get_cases, slice_get_read}
use Rattle.std.proofs.Common.{◌≡◌, ◌<◌, ◌≤◌, ◌⊎◌, ℕ, arith, get_or, length, zero, suc, List}
use Rattle.std.proofs.Common.{[], ◌∷◌, ◌++◌, refl, ap, sym, ◌∙◌, subst, inl, inr, map}
use Rattle.std.specs.Prelude.{Option, Some, None, IfSome, IsSome, slice_get, option_map}
use Rattle.std.specs.Borrow.{Bor}
use Rattle.lalrpop_grammar_symbols.specs.Symbols.{Text, Closed, WrittenSymbol}
use Rattle.lalrpop_grammar_language.specs.Among.{Among}
use Rattle.lalrpop_norm_theory.specs.KeyRules.{AreWrittenFor}
use Rattle.lalrpop_grammar_rules.specs.Views.{closed_view}
use Rattle.lalrpop_grammar_rules.specs.declared.closed.closed_symbol.ClosedSymbol.{ClosedSymbol}
use Rattle.lalrpop_norm_keys.specs.Tables.{table_keys}
use Rattle.lalrpop_norm_macros.specs.KeyNaming.{AreSymbolsFor, IsNameAt, IsNameOfKey, SpellsNames}
use Rattle.lalrpop_norm_macros.specs.KeyedSymbols.{AreKeyed}
use Rattle.lalrpop_norm_macros.specs.declared.key_symbols.names.KeyNames.{KeyNames}

pub get_map : {A B : Type 0} (f : A → B) (xs : List A) (i : ℕ) → slice_get (map f xs) i ≡ option_map f (slice_get xs i)
get_map f [] i = refl
get_map f (x ∷ xs) zero = refl
get_map f (x ∷ xs) (suc i) = get_map f xs i

pub got_among : {A : Type 0} (xs : List A) (i : ℕ) (x : A) → slice_get xs i ≡ Some x → Among xs x
got_among [] i x e = cc
got_among (y ∷ xs) zero x e = inl cc
got_among (y ∷ xs) (suc i) x e = inr (got_among xs i x e)

-- the name at the place of a key is the key's
name_there : (k : KeyNames) (f : Closed → Text) (x : Closed) (i : ℕ) → slice_get (table_keys k.keys.now) i ≡ Some x
    → SpellsNames k f
    → slice_get k.names.now i ≡ Some (f x)
name_there k f x i here spelled =
    ap (λ l. slice_get l i) (sym spelled) ∙ get_map f (table_keys k.keys.now) i ∙ ap (option_map f) here

-- so what stands there is its name
pub name_found : (k : KeyNames) (x : Closed) (i : ℕ) (o : Option (Bor Text)) → slice_get (table_keys k.keys.now) i ≡ Some x
    → IfSome o (λ n. n.now ≡ get_or k.names.now i n.now) → (i < length k.names.now → IsSome o) → IsNameOfKey k x o
name_found k x i None here is some = λ f spelled j. past f spelled (slice_get_cases k.names.now i).1
  where
    past : (f : Closed → Text) → SpellsNames k f
        → ((y : Text) × (i < length k.names.now) × (slice_get k.names.now i ≡ Some y) × (get_or k.names.now i y ≡ y))
        ⊎ ((length k.names.now ≤ i) × (slice_get k.names.now i ≡ None)) → ⊥
    past f spelled (inl w) = true≢false (sym (some w.1))
    past f spelled (inr w) = let e = name_there k f x i here spelled in let d = w.1 in cc
name_found k x i (Some n) here is some = (
  got_among (table_keys k.keys.now) i x here,
  λ f spelled. is ∙ get_or_from_slice_get k.names.now i (f x) n.now (name_there k f x i here spelled),
)

-- the name at a place
pub name_at_place : (k : KeyNames) (i : ℕ) (o : Option (Bor Text)) → IfSome o (λ n. n.now ≡ get_or k.names.now i n.now)
    → (i < length k.names.now → IsSome o) → IsNameAt k i o
name_at_place k i None is some = λ f spelled x here. past f spelled x here (slice_get_cases k.names.now i).1
  where
    past : (f : Closed → Text) → SpellsNames k f → (x : Closed) → slice_get (table_keys k.keys.now) i ≡ Some x
        → ((y : Text) × (i < length k.names.now) × (slice_get k.names.now i ≡ Some y) × (get_or k.names.now i y ≡ y))
        ⊎ ((length k.names.now ≤ i) × (slice_get k.names.now i ≡ None)) → ⊥
    past f spelled x here (inl w) = true≢false (sym (some w.1))
    past f spelled x here (inr w) = let e = name_there k f x i here spelled in let d = w.1 in cc
name_at_place k i (Some n) is some = λ f spelled x here.
    is ∙ get_or_from_slice_get k.names.now i (f x) n.now (name_there k f x i here spelled)

-- the key at a place of the program's list
pub key_at_place : (k : KeyNames) (keys : List ClosedSymbol) (i : ℕ) (x : ClosedSymbol) → map closed_view keys ≡ table_keys k.keys.now
    → i < length keys → x ≡ get_or keys i x → slice_get (table_keys k.keys.now) i ≡ Some (closed_view x)
key_at_place k keys i x all below is =
    ap (λ l. slice_get l i) (sym all) ∙ get_map closed_view keys i
    ∙ ap (option_map closed_view) (slice_get_read keys (length keys) i x refl below is)

-- a table has a key at each place below the number of its keys
pub key_below : (k : KeyNames) (keys : List ClosedSymbol) (i : ℕ) → map closed_view keys ≡ table_keys k.keys.now → i < length keys
    → (x : Closed) × (slice_get (table_keys k.keys.now) i ≡ Some x)
key_below k keys i all below = go (slice_get_cases keys i).1
  where
    go : ((y : ClosedSymbol) × (i < length keys) × (slice_get keys i ≡ Some y) × (get_or keys i y ≡ y))
        ⊎ ((length keys ≤ i) × (slice_get keys i ≡ None)) → (x : Closed) × (slice_get (table_keys k.keys.now) i ≡ Some x)
    go (inl w) =
        (closed_view w.0, ap (λ l. slice_get l i) (sym all) ∙ get_map closed_view keys i ∙ ap (option_map closed_view) w.2)
    go (inr w) = absurd (omega (arith, w.0))

-- one symbol more is written
keyed_parts : (bares : List Text) (keys xs ys : List Closed) → AreKeyed bares keys (xs ++ ys)
    → AreKeyed bares keys xs × AreKeyed bares keys ys
keyed_parts bares keys [] ys h = (tt, h)
keyed_parts bares keys (x ∷ xs) ys h = let w = keyed_parts bares keys xs ys h.2 in ((h.0, h.1, w.0), w.1)

written_on : (bares : List Text) (f : Closed → Text) (xs ys : List Closed) (vs ws : List WrittenSymbol) → AreWrittenFor bares f xs vs
    → AreWrittenFor bares f ys ws → AreWrittenFor bares f (xs ++ ys) (vs ++ ws)
written_on bares f [] ys [] ws h w = w
written_on bares f [] ys (v ∷ vs) ws h w = absurd h
written_on bares f (x ∷ xs) ys [] ws h w = absurd h
written_on bares f (x ∷ xs) ys (v ∷ vs) ws h w = (h.0, written_on bares f xs ys vs ws h.1 w)

pub symbols_on : (k : KeyNames) (xs ys : List Closed) (vs ws : List WrittenSymbol) → AreSymbolsFor k xs vs → AreSymbolsFor k ys ws
    → AreSymbolsFor k (xs ++ ys) (vs ++ ws)
symbols_on k xs ys vs ws h w = λ bares f spelled keyed.
    let p = keyed_parts bares (table_keys k.keys.now) xs ys keyed in
    (keyed, written_on bares f xs ys vs ws (h bares f spelled p.0).1 (w bares f spelled p.1).1)

-- symbols that are written for closed ones, with one more for one more closed one, are written for all of them
pub symbols_put : (k : KeyNames) (xs ys : List Closed) (vs ws : List WrittenSymbol) (x : Closed) (v : WrittenSymbol)
    → ys ≡ xs ++ x ∷ []
    → ws ≡ vs ++ v ∷ [] → AreSymbolsFor k xs vs → AreSymbolsFor k (x ∷ []) (v ∷ []) → AreSymbolsFor k ys ws
symbols_put k xs ys vs ws x v e d h w =
    subst (λ l. AreSymbolsFor k l ws) (sym e)
    (subst (AreSymbolsFor k (xs ++ x ∷ [])) (sym d) (symbols_on k xs (x ∷ []) vs (v ∷ []) h w))
