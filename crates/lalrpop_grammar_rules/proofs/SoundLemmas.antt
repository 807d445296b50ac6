-- What a name stands for has faulty parts only where an argument has, or is faulty itself: for the closing of symbols.
use Rattle.std.proofs.Common.{◌≡◌, ℕ, List, [], ◌∷◌, ◌++◌, refl, ap, sym, ◌∙◌, subst, cond, map}
use Rattle.std.specs.Prelude.{Bool, true, false, ◌&&◌, not, filter, zip}
use Rattle.std.specs.Str.{bytes_eq}
use Rattle.std.proofs.Math.Bool.{and-true}
use Rattle.std.proofs.lemmas.List.{map-append}
use Rattle.lalrpop_grammar_symbols.specs.Symbols.{Text, Closed, Closeds}
use Rattle.lalrpop_grammar_symbols.specs.declared.names.NonterminalString.{NonterminalString}
use Rattle.lalrpop_grammar_language.specs.Closing.{Meaning, Scope, are_sound, call_level, if_plain, is_sound, name_or}
use Rattle.lalrpop_grammar_language.specs.Closing.{only_value, parameter_value, plain_name}
use Rattle.lalrpop_grammar_rules.specs.declared.closed.closed_symbol.ClosedSymbol.{ClosedSymbol}
use Rattle.lalrpop_grammar_rules.specs.Views.{binding_of, closed_view, closeds, is_faulty}

-- a symbol without faulty parts, or a faulty one
abbrev pub IsWhole : Closed → Type 0
IsWhole c = is_sound c ≡ not (is_faulty c)

sound_whole : (c : Closed) → is_sound c ≡ true → IsWhole c
sound_whole (Closed.terminal t) e = e
sound_whole (Closed.call n args l) e = e
sound_whole (Closed.repeat op x) e = e
sound_whole (Closed.group xs) e = e
sound_whole (Closed.choose x) e = e
sound_whole (Closed.name m n x) e = e
sound_whole Closed.lookahead e = e
sound_whole Closed.lookbehind e = e
sound_whole Closed.faulty e = refl

abbrev AllWhole : List Closed → Type 0
AllWhole [] = Unit {0}
AllWhole (c ∷ cs) = IsWhole c × AllWhole cs

first_sound : (a b : Bool) → (a && b) ≡ true → a ≡ true
first_sound true b e = refl
first_sound false b e = e

others_sound : (a b : Bool) → (a && b) ≡ true → b ≡ true
others_sound true b e = e
others_sound false b e = absurd (cc)

all_whole : (cs : List Closed) → are_sound (closeds cs) ≡ true → AllWhole cs
all_whole [] e = tt
all_whole (c ∷ cs) e = (
  sound_whole c (first_sound (is_sound c) (are_sound (closeds cs)) e),
  all_whole cs (others_sound (is_sound c) (are_sound (closeds cs)) e),
)

only_whole : (cs : List Closed) (d : Closed) → AllWhole cs → IsWhole d → IsWhole (name_or (only_value cs) d)
only_whole [] d w h = h
only_whole (c ∷ []) d w h = w.0
only_whole (c ∷ e ∷ cs) d w h = refl

values_whole : (ns : List Text) (cs : List Closed) (n : Text) → AllWhole cs
    → AllWhole (map (λ (p : Text × Closed). p.1) (filter (λ (p : Text × Closed). bytes_eq n p.0) (zip ns cs)))
values_whole [] cs n w = tt
values_whole (m ∷ ns) [] n w = tt
values_whole (m ∷ ns) (c ∷ cs) n w = go (bytes_eq n m) (values_whole ns cs n w.1)
  where
    rest : List (Text × Closed)
    rest = filter (λ (q : Text × Closed). bytes_eq n q.0) (zip ns cs)

    go : (b : Bool) → AllWhole (map (λ (q : Text × Closed). q.1) rest)
        → AllWhole (map (λ (q : Text × Closed). q.1) (cond b ((m, c) ∷ rest) rest))
    go true later = (w.0, later)
    go false later = later

plain_whole : (s : Scope) (k : ℕ) (n : Text) (m : Meaning) → IsWhole (plain_name s k n m)
plain_whole s k n (Meaning.rule r) = go r.parameters
  where
    go : (ps : List Text) → IsWhole (if_plain ps (Closed.call n Closeds.none (call_level s k n r)))
    go [] = refl
    go (p ∷ ps) = refl
plain_whole s k n Meaning.terminal = refl
plain_whole s k n Meaning.unclear = refl

-- where no argument has faulty parts, what a name stands for has none, or is faulty
pub name_whole : (ps : List NonterminalString) (args : List ClosedSymbol) (known : Bool)
    → known ≡ are_sound (closeds (map closed_view args)) → known ≡ true → (s : Scope) (k : ℕ) (n : Text) (m : Meaning) (c : Closed)
    → c ≡ name_or (parameter_value (binding_of ps args) n) (plain_name s k n m) → IsWhole c
name_whole ps args known knows holds s k n m c named =
    subst IsWhole (sym named)
    (only_whole _ (plain_name s k n m)
    (values_whole (map (λ p. p.0) ps) (map closed_view args) n (all_whole (map closed_view args) (sym knows ∙ holds)))
    (plain_whole s k n m))

with_first : (x a b rest more : Bool) → a ≡ (x && rest) → ((k : Bool) → k ≡ rest → (k && b) ≡ more) → (a && b) ≡ (x && more)
with_first true a b rest more e f = f a e
with_first false a b rest more e f = rw e refl

sound_on : (a b : Bool) (cs : List Closed) → a ≡ are_sound (closeds cs) → (c : Closed) → b ≡ is_sound c
    → (a && b) ≡ are_sound (closeds (cs ++ c ∷ []))
sound_on a b [] e c f = rw (e, f) (sym (and-true (is_sound c)))
sound_on a b (d ∷ ds) e c f =
    with_first (is_sound d) a b (are_sound (closeds ds)) (are_sound (closeds (ds ++ c ∷ []))) e (λ k h. sound_on k b ds h c f)

-- one symbol further
pub sounds_on : (a b : Bool) (old new : List ClosedSymbol) (c : ClosedSymbol) → a ≡ are_sound (closeds (map closed_view old))
    → b ≡ is_sound (closed_view c) → new ≡ old ++ c ∷ [] → (a && b) ≡ are_sound (closeds (map closed_view new))
sounds_on a b old new c e f pushed =
    sound_on a b (map closed_view old) e (closed_view c) f
    ∙ ap (λ l. are_sound (closeds l)) (sym (ap (map closed_view) pushed ∙ map-append closed_view old (c ∷ [])))
