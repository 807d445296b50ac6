-- The set of what was listed so far; for the search of an entry that lists what an earlier one lists.
use Rattle.std.proofs.Common.{◌≡◌, ◌∙◌, ◌⊎◌, ap, sym, refl, subst, inl, inr, List, [], ◌∷◌, ◌++◌, map}
use Rattle.std.proofs.Common.{Bool, true, false, cond}
use Rattle.std.specs.Bool.{Decides}
use Rattle.std.specs.Borrow.{Bor}
use Rattle.std.specs.BTreeSet.{BTreeSet, contains}
use Rattle.std.specs.BTreeMap.{is_at}
use Rattle.std.specs.List.{list_any}
use Rattle.std.specs.Option.{option_cmp}
use Rattle.std.specs.Ordering.{is_eq}
use Rattle.std.proofs.Common.{Ordering}
use Rattle.std.specs.Prelude.{Option, Some, None, option_map, not}
use Rattle.std.proofs.lemmas.List.{map-append}
use Rattle.lalrpop_grammar_symbols.specs.Symbols.{Text, Terminal}
use Rattle.lalrpop_grammar_symbols.specs.Views.{literal_view}
use Rattle.lalrpop_grammar_symbols.specs.contracts.terminal.TerminalLiteralOrd.TheImpl as literals
use Rattle.lalrpop_grammar_symbols.specs.declared.terminal.TerminalLiteral.{TerminalLiteral}
use Rattle.lalrpop_grammar_symbols.specs.declared.terminal.TerminalLiteral.TheVariants as variants
use Rattle.lalrpop_grammar_symbols.proofs.ComparedLemmas.{same_text}
use Rattle.lalrpop_grammar.specs.WrittenGrammar.{WrittenEntry}
use Rattle.lalrpop_grammar_language.specs.Among.{Among}
use Rattle.lalrpop_norm_prevalidate.specs.Entries.{literal_in_entry, AreListedOnce}
use Rattle.lalrpop_norm_prevalidate.proofs.AgainLemmas.{one_entry_more}

-- a key of the set, how keys are compared, and what a key stands for
abbrev pub Key : Type 0
Key = Option (Bor TerminalLiteral)

abbrev pub key_cmp : Key → Key → Ordering
key_cmp = option_cmp (λ x y. (literals.ghosts).cmp x.now y.now)

abbrev pub key_view : Key → Option Terminal
key_view = option_map (λ l. literal_view l.now)

-- quoted terminals that are the same have the same text
pub quoted_is : (s t : Text) → Terminal.quoted s ≡ Terminal.quoted t → s ≡ t
quoted_is s t e = cc

regex_is : (s t : Text) → Terminal.regex s ≡ Terminal.regex t → s ≡ t
regex_is s t e = cc

same_literal : (a b : TerminalLiteral) → Decides (is_eq ((literals.ghosts).cmp a b)) (literal_view a ≡ literal_view b)
same_literal (variants.Quoted s) (variants.Quoted t) =
    (λ e. ap Terminal.quoted ((same_text s t).0 e), λ e. (same_text s t).1 (quoted_is s t e))
same_literal (variants.Quoted s) (variants.Regex t) = (λ e. cc, λ e. cc)
same_literal (variants.Regex s) (variants.Quoted t) = (λ e. cc, λ e. cc)
same_literal (variants.Regex s) (variants.Regex t) =
    (λ e. ap Terminal.regex ((same_text s t).0 e), λ e. (same_text s t).1 (regex_is s t e))

-- terminals in options that are the same are the same
pub some_is : (x y : Terminal) → Some x ≡ Some y → x ≡ y
some_is x y e = cc

-- keys compare as equal where they stand for the same
same_key : (x y : Key) → Decides (is_eq (key_cmp x y)) (key_view x ≡ key_view y)
same_key None None = (λ e. refl, λ e. refl)
same_key None (Some y) = (λ e. cc, λ e. cc)
same_key (Some x) None = (λ e. cc, λ e. cc)
same_key (Some x) (Some y) = (
  λ e. ap Some ((same_literal x.now y.now).0 e),
  λ e. (same_literal x.now y.now).1 (some_is (literal_view x.now) (literal_view y.now) e),
)

-- the set has these and no other
abbrev pub Holds : BTreeSet Key → List (Option Terminal) → Type 0
Holds s xs = (q : Key) → Decides (contains key_cmp s q) (Among xs (key_view q))

-- false and true are not the same, which rules out a case
pub false_is_true : false ≡ true → ⊥
false_is_true e = cc

-- a set without keys has nothing, as an empty list has
pub holds_nothing : (s : BTreeSet Key) → s.keys ≡ [] → Holds s []
holds_nothing s e q = (λ h. false_is_true (sym (ap (list_any (is_at (key_cmp q))) e) ∙ h), λ m. absurd m)

among_front : {A : Type 0} (xs ys : List A) (y : A) → Among xs y → Among (xs ++ ys) y
among_front [] ys y m = absurd m
among_front (x ∷ xs) ys y (inl e) = inl e
among_front (x ∷ xs) ys y (inr m) = inr (among_front xs ys y m)

among_back : {A : Type 0} (xs ys : List A) (y : A) → Among ys y → Among (xs ++ ys) y
among_back [] ys y m = m
among_back (x ∷ xs) ys y m = inr (among_back xs ys y m)

among_either : {A : Type 0} (xs : List A) (x y : A) → Among (xs ++ x ∷ []) y → Among xs y ⊎ (x ≡ y)
among_either [] x y (inl e) = inr e
among_either [] x y (inr m) = absurd m
among_either (z ∷ xs) x y (inl e) = inl (inl e)
among_either (z ∷ xs) x y (inr m) = further (among_either xs x y m)
  where
    further : Among xs y ⊎ (x ≡ y) → Among (z ∷ xs) y ⊎ (x ≡ y)
    further (inl k) = inl (inr k)
    further (inr e) = inr e

one_more : (b c d : Bool) (xs : List (Option Terminal)) (x y : Option Terminal) → Decides b (x ≡ y) → Decides c (Among xs y)
    → d ≡ cond b true c → Decides d (Among (xs ++ x ∷ []) y)
one_more true c d xs x y same holds e = (λ h. among_back xs (x ∷ []) y (inl (same.0 refl)), λ m. e)
one_more false c d xs x y same holds e =
    (λ h. among_front xs (x ∷ []) y (holds.0 (sym e ∙ h)), λ m. e ∙ earlier (among_either xs x y m))
  where
    earlier : Among xs y ⊎ (x ≡ y) → c ≡ true
    earlier (inl k) = holds.1 k
    earlier (inr q) = absurd (false_is_true (same.1 q))

-- the set with one key more
pub holds_more : (s n : BTreeSet Key) (k : Key) (xs : List (Option Terminal)) → Holds s xs
    → ((q : Key) → contains key_cmp n q ≡ cond (is_eq (key_cmp k q)) true (contains key_cmp s q))
    → Holds n (xs ++ key_view k ∷ [])
holds_more s n k xs holds updates q =
    one_more (is_eq (key_cmp k q)) (contains key_cmp s q) (contains key_cmp n q) xs (key_view k) (key_view q) (same_key k q) (holds q)
    (updates q)

-- The set has what these entries list, and none of them lists what another does.
abbrev pub HasSeen : BTreeSet Key → List WrittenEntry → Type 0
HasSeen s es = Holds s (map literal_in_entry es) × AreListedOnce es

-- an entry that lists what the set hasn't yet
pub seen_more : (s n : BTreeSet Key) (k : Key) (es next : List WrittenEntry) (e : WrittenEntry) → key_view k ≡ literal_in_entry e
    → next ≡ es ++ e ∷ [] → HasSeen s es → contains key_cmp s k ≡ false
    → ((q : Key) → contains key_cmp n q ≡ cond (is_eq (key_cmp k q)) true (contains key_cmp s q)) → HasSeen n next
seen_more s n k es next e lists is seen absent updates = (
  subst (Holds n) listed (holds_more s n k (map literal_in_entry es) seen.0 updates),
  subst AreListedOnce (sym is) (one_entry_more es e seen.1 new),
)
  where
    listed : map literal_in_entry es ++ key_view k ∷ [] ≡ map literal_in_entry next
    listed =
        ap (λ y. map literal_in_entry es ++ y ∷ []) lists ∙ sym (map-append literal_in_entry es (e ∷ []))
        ∙ ap (map literal_in_entry) (sym is)

    new : Among (map literal_in_entry es) (literal_in_entry e) → ⊥
    new m = false_is_true (sym absent ∙ (seen.0 k).1 (subst (Among (map literal_in_entry es)) (sym lists) m))

-- an entry that lists what the set has
pub seen_before : (s : BTreeSet Key) (k : Key) (es : List WrittenEntry) (e : WrittenEntry) → key_view k ≡ literal_in_entry e
    → HasSeen s es → contains key_cmp s k ≡ true → Among (map literal_in_entry es) (literal_in_entry e)
seen_before s k es e lists seen there = subst (Among (map literal_in_entry es)) lists ((seen.0 k).0 there)

-- what `insert` answers tells whether the set had the key
pub there_already : (first there : Bool) → first ≡ not there → first ≡ false → there ≡ true
there_already first true e h = refl
there_already first false e h = absurd (false_is_true (sym h ∙ e))

-- where `insert` answers that the key is new the set had it not
pub not_there : (first there : Bool) → first ≡ not there → first ≡ true → there ≡ false
not_there first true e h = sym h ∙ e
not_there first false e h = refl
