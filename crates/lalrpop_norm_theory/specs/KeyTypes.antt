-- The types that the rules of keys declare, once macros are expanded.
use Rattle.std.specs.Prelude.{◌≡◌, ◌⊎◌, List, Option, Some, None, codes}
use Rattle.lalrpop_grammar_symbols.specs.Symbols.{Text, Op, Terminal, Sym, WrittenSymbol, Closed}
use Rattle.lalrpop_grammar.specs.WrittenGrammar.{Ty, Tys}
use Rattle.lalrpop_grammar_language.specs.Among.{Among}
use Rattle.lalrpop_grammar_language.specs.Enabled.{EnabledGrammar, EnabledRule, IsRule}
use Rattle.lalrpop_grammar_language.specs.Closing.{Scope, parameter_value, close, sound_or_faulty}
use Rattle.lalrpop_norm_theory.specs.Types.{type_scope}
use Rattle.lalrpop_norm_theory.specs.KeyRules.{IsWrittenFor}

-- a terminal but that of error recovery, or a key that has a rule, maybe named or chosen
abbrev pub HasKeyRule : List Closed → Closed → Type 0
HasKeyRule keys (Closed.terminal (Terminal.quoted t)) = Unit {0}
HasKeyRule keys (Closed.terminal (Terminal.regex t)) = Unit {0}
HasKeyRule keys (Closed.terminal (Terminal.bare n)) = Unit {0}
HasKeyRule keys (Closed.terminal Terminal.error) = ⊥
HasKeyRule keys (Closed.call n args level) = Among keys (Closed.call n args level)
HasKeyRule keys (Closed.repeat op x) = Among keys (Closed.repeat op x)
HasKeyRule keys (Closed.group xs) = Among keys (Closed.group xs)
HasKeyRule keys (Closed.choose x) = HasKeyRule keys x
HasKeyRule keys (Closed.name m n x) = HasKeyRule keys x
HasKeyRule keys Closed.lookahead = Among keys Closed.lookahead
HasKeyRule keys Closed.lookbehind = Among keys Closed.lookbehind
HasKeyRule keys Closed.faulty = ⊥

-- what has no type in an expanded grammar, and no name that could mean something else there
abbrev pub IsLeftAsWritten : WrittenSymbol → Type 0
IsLeftAsWritten (Sym.expr p xs) = Unit {0}
IsLeftAsWritten (Sym.macro p n args) = Unit {0}
IsLeftAsWritten (Sym.repeat p op x) = Unit {0}
IsLeftAsWritten (Sym.choose p x) = IsLeftAsWritten x
IsLeftAsWritten (Sym.name p m n x) = IsLeftAsWritten x
IsLeftAsWritten (Sym.lookahead p) = Unit {0}
IsLeftAsWritten (Sym.lookbehind p) = Unit {0}
IsLeftAsWritten (Sym.error p) = Unit {0}
IsLeftAsWritten (Sym.ambiguous_id p n) = ⊥
IsLeftAsWritten (Sym.nonterminal p n) = ⊥
IsLeftAsWritten (Sym.terminal p (Terminal.quoted t)) = ⊥
IsLeftAsWritten (Sym.terminal p (Terminal.regex t)) = ⊥
IsLeftAsWritten (Sym.terminal p (Terminal.bare n)) = ⊥
IsLeftAsWritten (Sym.terminal p Terminal.error) = Unit {0}

-- The symbol stands for the closed one in a declared type: it is written for it where its key has a rule, and is left as it is
-- written where it has none.
abbrev pub StandsInType : List Text → (Closed → Text) → List Closed → Closed → WrittenSymbol → Type 0
StandsInType bares f keys x v = HasKeyRule keys x × IsWrittenFor bares f x v ⊎ (HasKeyRule keys x → ⊥) × IsLeftAsWritten v

abbrev pub IsSymbolType : List Text → (Closed → Text) → List Closed → Closed → Ty → Type 0
IsSymbolType bares f keys x z = (v : WrittenSymbol) × (z ≡ Ty.of_symbol v) × StandsInType bares f keys x v

-- a parameter's value is put for it
abbrev pub IsNamedType : List Text → (Closed → Text) → List Closed → Text → Option Closed → Ty → Type 0
IsNamedType bares f keys n None z = z ≡ Ty.id n
IsNamedType bares f keys n (Some x) z = IsSymbolType bares f keys x z

-- the declared type with its parameters put in, and its symbols by the names of their keys
abbrev mutual
  pub IsPutType : List Text → (Closed → Text) → List Closed → Scope → Ty → Ty → Type 0
  IsPutType bares f keys s (Ty.tuple ys) z = (zs : Tys) × (z ≡ Ty.tuple zs) × ArePutTypes bares f keys s ys zs
  IsPutType bares f keys s (Ty.nominal path ys) z = (zs : Tys) × (z ≡ Ty.nominal path zs) × ArePutTypes bares f keys s ys zs
  IsPutType bares f keys s (Ty.id n) z = IsNamedType bares f keys n (parameter_value s.binding n) z
  IsPutType bares f keys s (Ty.of_symbol w) z = IsSymbolType bares f keys (sound_or_faulty (close s 0 w)) z
  IsPutType bares f keys s (Ty.ref lifetime mutable y) z =
      (u : Ty) × (z ≡ Ty.ref lifetime mutable u) × IsPutType bares f keys s y u
  IsPutType bares f keys s (Ty.opaque text) z = z ≡ Ty.opaque text

  pub ArePutTypes : List Text → (Closed → Text) → List Closed → Scope → Tys → Tys → Type 0
  ArePutTypes bares f keys s Tys.none zs = zs ≡ Tys.none
  ArePutTypes bares f keys s (Tys.more y ys) zs =
      (u : Ty) × (us : Tys) × (zs ≡ Tys.more u us) × IsPutType bares f keys s y u × ArePutTypes bares f keys s ys us

abbrev pub IsPutDeclaration : List Text → (Closed → Text) → List Closed → Scope → Option Ty → Option Ty → Type 0
IsPutDeclaration bares f keys s None o = o ≡ None
IsPutDeclaration bares f keys s (Some y) o = (z : Ty) × (o ≡ Some z) × IsPutType bares f keys s y z

-- `Vec<x>` or `Option<x>`
abbrev pub repeat_ty : Op → WrittenSymbol → Ty
repeat_ty Op.star v = Ty.nominal (codes "Vec") (Tys.more (Ty.of_symbol v) Tys.none)
repeat_ty Op.plus v = Ty.nominal (codes "Vec") (Tys.more (Ty.of_symbol v) Tys.none)
repeat_ty Op.question v = Ty.nominal (codes "Option") (Tys.more (Ty.of_symbol v) Tys.none)

-- what the rule of a key declares: an instance what its macro does, a group nothing
abbrev pub IsKeyDeclaration : EnabledGrammar → (Closed → Text) → List Closed → Closed → Option Ty → Type 0
IsKeyDeclaration g f keys (Closed.terminal t) o = ⊥
IsKeyDeclaration g f keys (Closed.call n args level) o =
    (r : EnabledRule) × IsRule g n r × IsPutDeclaration g.bares f keys (type_scope g r args) r.declared o
IsKeyDeclaration g f keys (Closed.repeat op x) o = (v : WrittenSymbol) × (o ≡ Some (repeat_ty op v)) × IsWrittenFor g.bares f x v
IsKeyDeclaration g f keys (Closed.group xs) o = o ≡ None
IsKeyDeclaration g f keys (Closed.choose x) o = ⊥
IsKeyDeclaration g f keys (Closed.name m n x) o = ⊥
IsKeyDeclaration g f keys Closed.lookahead o = o ≡ Some (Ty.nominal (codes "usize") Tys.none)
IsKeyDeclaration g f keys Closed.lookbehind o = o ≡ Some (Ty.nominal (codes "usize") Tys.none)
IsKeyDeclaration g f keys Closed.faulty o = ⊥

-- each rule of a key declares so
abbrev pub DeclareKeyTypes : EnabledGrammar → EnabledGrammar → (Closed → Text) → List Closed → Type 0
DeclareKeyTypes g h f keys =
    (x : Closed) (q : EnabledRule) → Among keys x → IsRule h (f x) q → IsKeyDeclaration g f keys x q.declared
