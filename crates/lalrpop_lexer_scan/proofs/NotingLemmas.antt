-- What is noted of lists of literals, one after another. For the functions that walk through a grammar.
use Rattle.std.proofs.Common.{◌≡◌, ℕ, ◌+◌, ◌<◌, Bool, true, false, cond, List, [], ◌∷◌, ◌++◌, Option, Some, None}
use Rattle.std.proofs.Common.{is_some, map, length, take, get_or, refl, sym, ap, ◌∙◌, option_map, add-one, append-nil}
use Rattle.std.specs.Prelude.{flat_map}
use Rattle.std.specs.Option.{option_or}
use Rattle.std.specs.Ordering.{nat_cmp}
use Rattle.std.specs.Cmp.Lexicographic.{slice_cmp}
use Rattle.std.specs.Str.{bytes_eq}
use Rattle.std.specs.BTreeMap.{BTreeMap, get, UpdatesBy}
use Rattle.std.proofs.Math.Seq.{take-suc}
use Rattle.std.proofs.lemmas.Grind.{flat_map-append}
use Rattle.std.proofs.lemmas.Map.Text.{is_eq-slice_cmp}
use Rattle.std.proofs.lemmas.Slice.Eq.{bytes_eq-Decides}
use Rattle.std.proofs.lemmas.Bool.Decides.{same_from_decides}
use Rattle.lalrpop_grammar_symbols.specs.declared.span.Span.{Span}
use Rattle.lalrpop_grammar_symbols.specs.Symbols.{Text, TextSpan, Terminal}
use Rattle.lalrpop_grammar_symbols.specs.Views.{span_view}
use Rattle.lalrpop_lexer_scan.specs.declared.noting.Uses.{Uses}
use Rattle.lalrpop_lexer_scan.specs.Literals.{LiteralUse, same_terminal, first_span}
use Rattle.lalrpop_lexer_scan.specs.Noting.{noted_span, noted_span_of, Notes}

option_or_none : {A : Type 0} (x : Option A) → option_or x None ≡ x
option_or_none None = refl
option_or_none (Some x) = refl

option_or_assoc : {A : Type 0} (x y z : Option A) → option_or (option_or x y) z ≡ option_or x (option_or y z)
option_or_assoc None y z = refl
option_or_assoc (Some x) y z = refl

-- in two lists, one after the other, a literal stands first where it does in the one, or else in the other
pub first_place-append : (us vs : List LiteralUse) (t : Terminal)
    → first_span (us ++ vs) t ≡ option_or (first_span us t) (first_span vs t)
first_place-append [] vs t = refl
first_place-append (u ∷ us) vs t =
    elim (same_terminal t u.literal) as
    (λ b. cond b (Some u.span) (first_span (us ++ vs) t) ≡ option_or (cond b (Some u.span) (first_span us t)) (first_span vs t))
    [ true ↦ refl | false ↦ first_place-append us vs t ]

pub Notes-append : (a b c : Uses) (us vs : List LiteralUse) → Notes a b us → Notes b c vs → Notes a c (us ++ vs)
Notes-append a b c us vs h k t =
    k t
    ∙ ap (λ (o : Option TextSpan). option_or o (first_span vs t)) (h t)
    ∙ option_or_assoc (noted_span_of a t) (first_span us t) (first_span vs t)
    ∙ ap (option_or (noted_span_of a t)) (sym (first_place-append us vs t))

-- Together with what is still to come, these spans are noted. For loops over walks.
abbrev pub NotesInAll : (all : Terminal → Option TextSpan) → Uses → List LiteralUse → Type 0
NotesInAll all uses left = (t : Terminal) → option_or (noted_span_of uses t) (first_span left t) ≡ all t

-- one more turn of such a loop
pub NotesInAll-step : (all : Terminal → Option TextSpan) (a b : Uses) (left us rest : List LiteralUse) → left ≡ us ++ rest
    → Notes a b us → NotesInAll all a left → NotesInAll all b rest
NotesInAll-step all a b left us rest is k h t =
    ap (λ (o : Option TextSpan). option_or o (first_span rest t)) (k t)
    ∙ option_or_assoc (noted_span_of a t) (first_span us t) (first_span rest t)
    ∙ ap (option_or (noted_span_of a t)) (sym (first_place-append us rest t) ∙ ap (λ (l : List LiteralUse). first_span l t) (sym is))
    ∙ h t

-- one more turn of a loop over a list
pub Notes-more : {A : Type 0} (f : A → List LiteralUse) (xs : List A) (i : ℕ) (x : A) (a b c : Uses) → i < length xs
    → x ≡ get_or xs i x
    → Notes a b (flat_map f (take i xs)) → Notes b c (f x) → Notes a c (flat_map f (take (i + 1) xs))
Notes-more f xs i x a b c inside is h k =
    let whole : flat_map f (take (i + 1) xs) ≡ flat_map f (take i xs) ++ f x =
    ap (λ n. flat_map f (take n xs)) (add-one i) ∙ ap (flat_map f) (take-suc xs i x inside)
    ∙ flat_map-append f (take i xs) (get_or xs i x ∷ [])
    ∙ ap (λ r. flat_map f (take i xs) ++ r) (append-nil (f (get_or xs i x)) ∙ ap f (sym is)) in
    λ t. Notes-append a b c (flat_map f (take i xs)) (f x) h k t
    ∙ ap (λ (l : List LiteralUse). option_or (noted_span_of a t) (first_span l t)) (sym whole)

-- a map and then a flat map are one flat map
pub flat_map-map : {A B C : Type 0} (f : B → List C) (g : A → B) (xs : List A) → flat_map f (map g xs) ≡ flat_map (λ x. f (g x)) xs
flat_map-map f g [] = refl
flat_map-map f g (x ∷ xs) = ap (λ r. f (g x) ++ r) (flat_map-map f g xs)

-- one text in a map
turned : (k q : Text) → bytes_eq k q ≡ bytes_eq q k
turned k q =
    same_from_decides (bytes_eq k q) (bytes_eq q k) (bytes_eq-Decides k q)
    (λ e. sym ((bytes_eq-Decides q k).0 e), λ e. (bytes_eq-Decides q k).1 (sym e))

put : (b c : Bool) (o : Option Span) (s : Span) → b ≡ c → (c ≡ true → is_some o ≡ false)
    → option_map span_view (cond b (Some s) o) ≡ option_or (option_map span_view o) (cond c (Some (span_view s)) None)
put true true None s e h = refl
put true true (Some x) s e h = let wrong : true ≡ false = h refl in cc
put true false o s e h = cc
put false true o s e h = cc
put false false None s e h = refl
put false false (Some x) s e h = refl

-- the key's own value, at a text equal to it
at_key : (m : BTreeMap Text Span) (k : Text) (b : Bool) (q : Text) → is_some (get (slice_cmp nat_cmp) m k) ≡ b → bytes_eq q k ≡ true
    → is_some (get (slice_cmp nat_cmp) m q) ≡ b
at_key m k b q h e = ap (λ (t : Text). is_some (get (slice_cmp nat_cmp) m t)) ((bytes_eq-Decides q k).0 e) ∙ h

-- a text that had no place gets one
pub noted : (old new : BTreeMap Text Span) (k text : Text) (s : Span) → k ≡ text
    → is_some (get (slice_cmp nat_cmp) old text) ≡ false
    → UpdatesBy (slice_cmp nat_cmp) (slice_cmp nat_cmp k) old new (Some s)
    → (q : Text) → noted_span new q ≡ option_or (noted_span old q) (cond (bytes_eq q text) (Some (span_view s)) None)
noted old new k text s same fresh updates q =
    ap (option_map span_view) (updates.0 q)
    ∙ put _ (bytes_eq q text) (get (slice_cmp nat_cmp) old q) s
    (is_eq-slice_cmp k q ∙ turned k q ∙ ap (bytes_eq q) same)
    (at_key old text false q fresh)
