-- The passes take what the grammar by relations derives: whole texts.
use Rattle.std.proofs.Common.{◌≡◌, refl, subst, arith, ◌+◌, ℕ, ℤ, List, [], ◌∷◌, ◌++◌, length, reverse, Some, Ok}
use Rattle.ic_base.specs.declared.limits.TheConstants.{TEXT_BYTES}
use Rattle.ic_base.specs.declared.messages.Kind.TheVariants.{Pcom, Tcom}
use Rattle.ic_base.specs.declared.scenario.Program.{Program}
use Rattle.def_syntax.specs.Text.{◌>>=◌, lines_of, numbered}
use Rattle.def_syntax.specs.SyntaxLines.{XcomItem, TcomItem, PcomItem, KeyItem, VarItem, OnItem, EndItem}
use Rattle.def_syntax.specs.Blocks.{TcomBlock, PcomBlock, HandlerBlock, Stay, Begin, Finish, in_block}
use Rattle.def_syntax.specs.Scope.{Declared, Frame, Scope, empty_scope, component, frame, noted, is_twice, passes}
use Rattle.def_syntax.specs.Names.{resolved}
use Rattle.def_syntax.specs.Lines.{Line, program_lines}
use Rattle.def_syntax.specs.Lines as grammar
use Rattle.def_syntax.specs.Scenario.{checked, all_named, scenario_of, IsScenario}
use Rattle.def_syntax.specs.Grammar.{NumberedLine, Open, Keys, no_key, key, Vars, no_var, var, Handlers, no_handler, handler, Components, no_component, xcom, tcom, pcom, Derives, IsWritten}
use Rattle.def_syntax.proofs.Derivations.{state}
use Rattle.def_syntax.proofs.Taking.{Ends, done, next, takes, passed, not_below, not_above, neither_is}
use Rattle.def_syntax.proofs.Accepting.{taken_end, handler_end, accepted}

-- the lines of a component, whatever the latest handler has
abbrev pub Anyhow : List Declared → List Declared → List Frame → List NumberedLine → List Line → Type 0
Anyhow all cs fs is ls = (ps : List (List ℕ)) (s g : ℕ) (t : List ℕ) → Ends all (state cs fs ps s g t) is ls

abbrev keyed : List ℕ → List (List ℕ) → Declared
keyed n ks = record (component n Tcom) { keys = ks }

tcom_key : (k : List ℕ) (z : ℤ) → in_block TcomBlock (KeyItem k z) ≡ Some Stay
unfolding in_block
tcom_key k z = refl

tcom_end : in_block TcomBlock EndItem ≡ Some Finish
unfolding in_block
tcom_end = refl

pcom_var : (v : List ℕ) (z : ℤ) → in_block PcomBlock (VarItem v z) ≡ Some Stay
unfolding in_block
pcom_var v z = refl

pcom_on : (n : List ℕ) (ps : List (List ℕ)) → in_block PcomBlock (OnItem n ps) ≡ Some (Begin HandlerBlock)
unfolding in_block
pcom_on n ps = refl

pcom_end : in_block PcomBlock EndItem ≡ Some Finish
unfolding in_block
pcom_end = refl

keys_end : (all : List Declared) (n : List ℕ) (cs : List Declared) {ks every : List (List ℕ)} {p q : Open} → Keys ks p every q
    → Anyhow all (keyed n every ∷ cs) (frame TcomBlock ∷ []) q.0 q.1 → Anyhow all (keyed n ks ∷ cs) (frame TcomBlock ∷ []) p.0 p.1
unfolding noted passes is_twice resolved
keys_end all n cs no_key k ps s g t = k ps s g t
keys_end all n cs (key {ks = ks} {k = x} {z = z} free new few d) k ps s g t =
    next (takes (state (keyed n ks ∷ cs) (frame TcomBlock ∷ []) ps s g t) (KeyItem x z) Stay (neither_is _ _ free refl) refl (tcom_key x z) new (not_below 1024 (length ks) few)) refl
    (keys_end all n cs d k ps s g t)

abbrev handled : List ℕ → List (List ℕ) → List (List ℕ × ℕ) → Declared
handled n vs hs = record (component n Pcom) { vars = vs; handlers = hs }

vars_end : (all : List Declared) (n : List ℕ) (cs : List Declared) {vs every : List (List ℕ)} {p q : Open} → Vars vs p every q
    → Anyhow all (handled n every [] ∷ cs) (frame PcomBlock ∷ []) q.0 q.1 → Anyhow all (handled n vs [] ∷ cs) (frame PcomBlock ∷ []) p.0 p.1
unfolding noted passes is_twice resolved
vars_end all n cs no_var k ps s g t = k ps s g t
vars_end all n cs (var {vs = vs} {v = x} {z = z} free new few d) k ps s g t =
    next (takes (state (handled n vs [] ∷ cs) (frame PcomBlock ∷ []) ps s g t) (VarItem x z) Stay (neither_is _ _ free refl) (not_above 0 0 (omega arith)) (pcom_var x z) new (not_below 32 (length vs) few)) refl
    (vars_end all n cs d k ps s g t)

handlers_end : (all : List Declared) (n : List ℕ) (vs : List (List ℕ)) (cs : List Declared) {hs every : List (List ℕ × ℕ)} {p q : Open} → Handlers all n vs hs p every q
    → Anyhow all (handled n vs every ∷ cs) (frame PcomBlock ∷ []) q.0 q.1 → Anyhow all (handled n vs hs ∷ cs) (frame PcomBlock ∷ []) p.0 p.1
unfolding noted passes is_twice resolved
handlers_end all n vs cs no_handler k ps s g t = k ps s g t
handlers_end all n vs cs (handler {hs = hs} {m = m} {ps = qs} {s = s1} {g = g1} {n1 = n1} {is1 = is1} {ls1 = ls1} free new twice vars few params d d1) k ps s g t =
    next
    (takes (state (handled n vs hs ∷ cs) (frame PcomBlock ∷ []) ps s g t) (OnItem m qs) (Begin HandlerBlock) free refl (pcom_on m qs) (neither_is _ _ (neither_is _ _ new twice) vars)
    (neither_is _ _ (not_below 64 (length hs) few) (not_above 8 (length qs) params)))
    refl
    (accepted all (handled n vs (hs ++ (m, length qs) ∷ []) ∷ cs) qs HandlerBlock (frame PcomBlock) [] d t [] refl refl (λ t1 own1 e1.
    taken_end all (handled n vs (hs ++ (m, length qs) ∷ []) ∷ cs) qs t1 HandlerBlock own1 (frame PcomBlock ∷ []) s1 g1 n1 (grammar.End ∷ []) is1 ls1 handler_end refl
    (handlers_end all n vs cs d1 k qs s1 g1 t1)))

pub components_end : (all : List Declared) {cs : List Declared} {p : Open} → Components all cs p → Anyhow all cs [] p.0 p.1
unfolding noted passes is_twice resolved
components_end all (no_component e) ps s g t = done refl e
components_end all (xcom {cs = cs} {n = n} m d) ps s g t =
    next (takes (state cs [] ps s g t) (XcomItem n) Stay (neither_is _ _ m.free refl) refl refl m.new (not_below 32 (length cs) m.few)) refl
    (components_end all d ps s g t)
components_end all (tcom {cs = cs} {j = j} {n = n} {ks = ks} {is1 = is1} {ls1 = ls1} m d d1) ps s g t =
    next (takes (state cs [] ps s g t) (TcomItem n) (Begin TcomBlock) (neither_is _ _ m.free refl) refl refl m.new (not_below 32 (length cs) m.few)) refl
    (keys_end all n cs d
    (λ ps1 s1 g1 t1. taken_end all (keyed n ks ∷ cs) ps1 t1 TcomBlock [] [] s1 g1 j (grammar.End ∷ []) is1 ls1 tcom_end refl (components_end all d1 ps1 s1 g1 t1)) ps s g t)
components_end all (pcom {cs = cs} {j = j} {n = n} {immediate = b} {vs = vs} {hs = hs} {is1 = is1} {ls1 = ls1} m d d1 d2) ps s g t =
    next (takes (state cs [] ps s g t) (PcomItem n b) (Begin PcomBlock) (neither_is _ _ m.free refl) refl refl m.new (not_below 32 (length cs) m.few)) refl
    (vars_end all n cs d
    (handlers_end all n vs cs d1
    (λ ps1 s1 g1 t1. taken_end all (handled n vs hs ∷ cs) ps1 t1 PcomBlock [] [] s1 g1 j (grammar.End ∷ []) is1 ls1 pcom_end refl (components_end all d2 ps1 s1 g1 t1))) ps s g t)

both_pass : (lines : List (ℕ × List ℕ)) (last : ℕ) (all : List Declared) (final : Scope) (out : List Line) → checked last empty_scope lines ≡ Ok final → all_named all empty_scope lines ≡ Ok out → all ≡ reverse final.components
    → (checked last empty_scope lines >>= (λ (seen : Scope). all_named (reverse seen.components) empty_scope lines)) ≡ Ok out
both_pass lines last all final out a b e = rw a (subst (λ (cs : List Declared). all_named cs empty_scope lines ≡ Ok out) e b)

-- what the grammar derives the text stands for
pub is_read : (text : List ℕ) (out : List Line) → Derives text out → scenario_of text ≡ Ok out
unfolding scenario_of
is_read text out d =
    let short = not_above TEXT_BYTES (length text) d.short in
    let lines = numbered 1 (lines_of text) in
    let r = passed d.all (length lines + 1) empty_scope out d.said (components_end d.all d.components [] 0 0 []) in
    rw short (both_pass lines (length lines + 1) d.all r.final out r.first r.second r.all_is)

pub is_scenario : (text : List ℕ) (p : Program) → IsWritten text p → IsScenario text p
is_scenario text p d = is_read text (program_lines p) d
