use Rattle.std.proofs.Common.{◌≡◌, ◌++◌, ◌∙◌, ap, sym, false}
use Rattle.std.specs.Option.{is_some}
use Rattle.def_syntax.specs.Scope.{is_in, names, latest, locals_of}
use Rattle.ic_items.proofs.Lists.{is_in-names, is_in-append}
use Rattle.ic_items.proofs.scope.Scope.is_seen.Goals as goal

pub returns : goal.returns
returns c =
    let n = c.args.name.now in
    let s = c.args.self.now in
    let v : is_in n (latest s).vars ≡ false = cc in
    let p : is_in n s.params ≡ false = cc in
    let here : c.is_some.result ≡ is_in n (names (locals_of s)) = c.is_some.ensures ∙ ap is_some (sym c.local.ensures) ∙ sym (is_in-names n (locals_of s)) in
    let a : is_in n ((latest s).vars ++ s.params) ≡ false = is_in-append n (latest s).vars s.params v ∙ p in
    here ∙ sym (is_in-append n ((latest s).vars ++ s.params) (names (locals_of s)) a)
