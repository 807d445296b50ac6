-- Rules of keys stand at their places, and their alternatives where those that they are made of do; for the pass.
use Rattle.std.proofs.Common.{◌≡◌, List, [], ◌∷◌, refl, ap, sym, ◌∙◌, subst, inl, inr, ◌⊎◌}
use Rattle.std.specs.Prelude.{Option, codes}
use Rattle.lalrpop_grammar_symbols.specs.Symbols.{Closed, Op, Text, TextSpan, WrittenSymbol}
use Rattle.lalrpop_grammar.specs.WrittenGrammar.{Alternative, Attr, Condition, Rule, Ty}
use Rattle.lalrpop_grammar_language.specs.Among.{Among}
use Rattle.lalrpop_grammar_language.specs.Enabled.{EnabledGrammar}
use Rattle.lalrpop_grammar_language.specs.Admitting.{argument_list, bind}
use Rattle.lalrpop_grammar_language.specs.Conditions.{Holds}
use Rattle.lalrpop_norm_theory.specs.Between.{rule_between}
use Rattle.lalrpop_norm_chain.specs.OwnAttributes.{added_attributes}
use Rattle.lalrpop_norm_chain.specs.Spans.{IsAddedOrigin, IsMadeFrom}
use Rattle.lalrpop_norm_keys.specs.KeyPlaces.{IsShapeKey}
use Rattle.lalrpop_norm_macros.specs.AddedRules.{AddedChoice, AreAddedAlternatives, IsAddedRule, added_choices}
use Rattle.lalrpop_norm_macros.specs.FinishedRules.{BecomesInInstance, IsFinishedRule, IsRepeatType}
use Rattle.lalrpop_norm_macros.specs.InstanceRules.{AreInstancesBy}
use Rattle.lalrpop_norm_macros.specs.KeyedSymbols.{AreWrittenByName}

-- an alternative of an instance is made of one of the rule
instance_of : (held : Option Condition → Type 0) (becomes : Alternative → Alternative → Type 0) (as_ bs : List Alternative)
    → AreInstancesBy held becomes as_ bs → (b : Alternative) → Among bs b → (a : Alternative) × Among as_ a × becomes a b
instance_of held becomes [] bs h b i = absurd (subst (λ (l : List Alternative). Among l b) h i)
instance_of held becomes (a ∷ as_) bs (inl h) b i =
    go (subst (λ (l : List Alternative). Among l b) h.3 i) (λ j. instance_of held becomes as_ h.2 h.5 b j)
  where
    go : Among (h.1 ∷ h.2) b → (Among h.2 b → (c : Alternative) × Among as_ c × becomes c b)
        → (c : Alternative) × Among (a ∷ as_) c × becomes c b
    go (inl e) later = (a, inl refl, subst (becomes a) e h.4)
    go (inr j) later = let u = later j in (u.0, inr u.1, u.2)
instance_of held becomes (a ∷ as_) bs (inr h) b i = let u = instance_of held becomes as_ bs h.1 b i in (u.0, inr u.1, u.2)

-- an alternative that is added tells one of the choices, and stands where its rule does
added_tells : (symbols : List Closed → List WrittenSymbol → Type 0) (p : TextSpan) (cs : List AddedChoice) (bs : List Alternative)
    → AreAddedAlternatives symbols p cs bs → (b : Alternative) → Among bs b
    → (c : AddedChoice) × Among cs c × (b.origin ≡ c.origin) × (b.span ≡ p)
added_tells symbols p [] bs h b i = absurd (subst (λ (l : List Alternative). Among l b) h i)
added_tells symbols p (c ∷ cs) bs h b i =
    go (subst (λ (l : List Alternative). Among l b) h.2 i) (λ j. added_tells symbols p cs h.1 h.4 b j)
  where
    go : Among (h.0 ∷ h.1) b → (Among h.1 b → (d : AddedChoice) × Among cs d × (b.origin ≡ d.origin) × (b.span ≡ p))
        → (d : AddedChoice) × Among (c ∷ cs) d × (b.origin ≡ d.origin) × (b.span ≡ p)
    go (inl e) later = (
      c,
      inl refl,
      ap (λ (a : Alternative). a.origin) (sym e) ∙ h.3.origin,
      ap (λ (a : Alternative). a.span) (sym e) ∙ h.3.span,
    )
    go (inr j) later = let u = later j in (u.0, inr u.1, u.2, u.3)

-- none of the choices is a written alternative's
added_origin : (x : Closed) (c : AddedChoice) → Among (added_choices x) c → IsAddedOrigin c.origin
added_origin (Closed.repeat Op.plus x) c (inl e) = subst (λ (d : AddedChoice). IsAddedOrigin d.origin) e tt
added_origin (Closed.repeat Op.plus x) c (inr (inl e)) = subst (λ (d : AddedChoice). IsAddedOrigin d.origin) e tt
added_origin (Closed.repeat Op.plus x) c (inr (inr i)) = absurd i
added_origin (Closed.repeat Op.star x) c (inl e) = subst (λ (d : AddedChoice). IsAddedOrigin d.origin) e tt
added_origin (Closed.repeat Op.star x) c (inr (inl e)) = subst (λ (d : AddedChoice). IsAddedOrigin d.origin) e tt
added_origin (Closed.repeat Op.star x) c (inr (inr i)) = absurd i
added_origin (Closed.repeat Op.question x) c (inl e) = subst (λ (d : AddedChoice). IsAddedOrigin d.origin) e tt
added_origin (Closed.repeat Op.question x) c (inr (inl e)) = subst (λ (d : AddedChoice). IsAddedOrigin d.origin) e tt
added_origin (Closed.repeat Op.question x) c (inr (inr i)) = absurd i
added_origin (Closed.group xs) c (inl e) = subst (λ (d : AddedChoice). IsAddedOrigin d.origin) e tt
added_origin (Closed.group xs) c (inr i) = absurd i
added_origin Closed.lookahead c (inl e) = subst (λ (d : AddedChoice). IsAddedOrigin d.origin) e tt
added_origin Closed.lookahead c (inr i) = absurd i
added_origin Closed.lookbehind c (inl e) = subst (λ (d : AddedChoice). IsAddedOrigin d.origin) e tt
added_origin Closed.lookbehind c (inr i) = absurd i
added_origin (Closed.terminal t) c i = absurd i
added_origin (Closed.call m xs level) c i = absurd i
added_origin (Closed.choose x) c i = absurd i
added_origin (Closed.name m k x) c i = absurd i
added_origin Closed.faulty c i = absurd i

abbrev Stands : List Rule → Rule → Alternative → Type 0
Stands rs made b = IsMadeFrom rs made b ⊎ (b.span ≡ made.span) × IsAddedOrigin b.origin

-- the alternatives of a rule that is added
added_stands : (symbols : List Closed → List WrittenSymbol → Type 0) (repeats : Op → Closed → Ty → Type 0) (x : Closed) (n : Text)
    (p : TextSpan) (rs : List Rule) (made : Rule) → IsAddedRule symbols repeats x n p made → (b : Alternative)
    → Among made.alternatives b → Stands rs made b
added_stands symbols repeats x n p rs made d b i =
    let u = added_tells symbols p (added_choices x) made.alternatives d.alternatives b i in
    inr (u.3 ∙ sym d.span, subst IsAddedOrigin (sym u.2) (added_origin x u.0 u.1))

-- the alternatives of the rule of a key
pub finished_stands : (g : EnabledGrammar) (rs : List Rule) (f : Closed → Text) (keys : List Closed) (x : Closed) (p : TextSpan)
    (made : Rule) → IsFinishedRule g rs f keys x p made → (b : Alternative) → Among made.alternatives b
    → IsMadeFrom rs made b ⊎ (b.span ≡ made.span) × IsAddedOrigin b.origin
finished_stands g rs f keys (Closed.call m xs level) p made (written, c, d) b i =
    let r = rule_between written in
    let a = instance_of (Holds g (bind r xs)) (BecomesInInstance g f keys r xs) written.alternatives made.alternatives
    d.alternatives b i in
    inl (record {
      rule = written;
      alternative = a.0;
      rule_there = c.among;
      alternative_there = a.1;
      arguments = argument_list g.spelled xs;
      origin_is = a.2.origin;
      span_is = a.2.span;
      rule_span_is = d.span;
    })
finished_stands g rs f keys (Closed.repeat op x) p made d b i =
    added_stands (AreWrittenByName g.bares f keys) (IsRepeatType g.bares f) (Closed.repeat op x) (f (Closed.repeat op x)) p rs made d b i
finished_stands g rs f keys (Closed.group xs) p made d b i =
    added_stands (AreWrittenByName g.bares f keys) (IsRepeatType g.bares f) (Closed.group xs) (f (Closed.group xs)) p rs made d b i
finished_stands g rs f keys Closed.lookahead p made d b i =
    added_stands (AreWrittenByName g.bares f keys) (IsRepeatType g.bares f) Closed.lookahead (f Closed.lookahead) p rs made d b i
finished_stands g rs f keys Closed.lookbehind p made d b i =
    added_stands (AreWrittenByName g.bares f keys) (IsRepeatType g.bares f) Closed.lookbehind (f Closed.lookbehind) p rs made d b i
finished_stands g rs f keys (Closed.terminal t) p made d b i = absurd d
finished_stands g rs f keys (Closed.choose x) p made d b i = absurd d
finished_stands g rs f keys (Closed.name m k x) p made d b i = absurd d
finished_stands g rs f keys Closed.faulty p made d b i = absurd d

abbrev inline_there : TextSpan → List Attr
inline_there p = Attr.empty p (codes "inline") ∷ []

-- the rule of a repeat, a group or a lookaround says at most that it is inlined, at its place
pub finished_attributes : (g : EnabledGrammar) (rs : List Rule) (f : Closed → Text) (keys : List Closed) (x : Closed) (p : TextSpan)
    (made : Rule) → IsShapeKey x → IsFinishedRule g rs f keys x p made → made.attributes ≡ added_attributes made.span x
finished_attributes g rs f keys (Closed.repeat Op.plus x) p made shape d = d.attributes
finished_attributes g rs f keys (Closed.repeat Op.star x) p made shape d = d.attributes ∙ ap inline_there (sym d.span)
finished_attributes g rs f keys (Closed.repeat Op.question x) p made shape d = d.attributes ∙ ap inline_there (sym d.span)
finished_attributes g rs f keys (Closed.group xs) p made shape d = d.attributes ∙ ap inline_there (sym d.span)
finished_attributes g rs f keys Closed.lookahead p made shape d = d.attributes ∙ ap inline_there (sym d.span)
finished_attributes g rs f keys Closed.lookbehind p made shape d = d.attributes ∙ ap inline_there (sym d.span)
finished_attributes g rs f keys (Closed.call m xs level) p made shape d = absurd shape
finished_attributes g rs f keys (Closed.terminal t) p made shape d = absurd shape
finished_attributes g rs f keys (Closed.choose x) p made shape d = absurd shape
finished_attributes g rs f keys (Closed.name m k x) p made shape d = absurd shape
finished_attributes g rs f keys Closed.faulty p made shape d = absurd shape

-- the rule of a repeat, a group or a lookaround stands at its place
pub finished_place : (g : EnabledGrammar) (rs : List Rule) (f : Closed → Text) (keys : List Closed) (x : Closed) (p : TextSpan)
    (made : Rule) → IsShapeKey x → IsFinishedRule g rs f keys x p made → made.span ≡ p
finished_place g rs f keys (Closed.repeat op x) p made shape d = d.span
finished_place g rs f keys (Closed.group xs) p made shape d = d.span
finished_place g rs f keys Closed.lookahead p made shape d = d.span
finished_place g rs f keys Closed.lookbehind p made shape d = d.span
finished_place g rs f keys (Closed.call m xs level) p made shape d = absurd shape
finished_place g rs f keys (Closed.terminal t) p made shape d = absurd shape
finished_place g rs f keys (Closed.choose x) p made shape d = absurd shape
finished_place g rs f keys (Closed.name m k x) p made shape d = absurd shape
finished_place g rs f keys Closed.faulty p made shape d = absurd shape
