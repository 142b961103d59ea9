-- The numbers of the bank's scene have their bytes.
use Rattle.std.proofs.Common.{◌≡◌, ◌∙◌, ap, lit<, refl, subst, ℕ, zero, suc, ◌<◌, ◌≤◌, ◌^◌, pos, Bool, true, false, ◌&&◌, List, [], ◌∷◌, slice_get, Option, Some, arith}
use Rattle.std.specs.Prelude.{nat_le}
use Rattle.std.specs.List.{All, AllByRecursion, list_all}
use Rattle.std.proofs.lemmas.Bool.{leb-true}
use Rattle.std.specs.declared.alloc.Global.{Global}
use Rattle.ic_base.specs.declared.limits.TheConstants.{VALUES}
use Rattle.ic_base.specs.declared.scenario.Handler.{Handler}
use Rattle.ic_base.specs.declared.scenario.Expr.TheVariants.{One, Two}
use Rattle.ic_base.specs.declared.scenario.Op.TheVariants.{Add}
use Rattle.ic_base.specs.declared.scenario.Operand.TheVariants.{Number, Var, Param}
use Rattle.ic_base.specs.declared.scenario.Stmt.{Stmt}
use Rattle.ic_base.specs.declared.scenario.Stmt.TheVariants as stmt
use Rattle.def_log.specs.Spelling.{Fits}
use Rattle.def_play.specs.Playing.{stmts_of, handler_of}
use Rattle.def_play.specs.Scenes.{body, add}
use Rattle.def_plain.specs.Scenes.{com_at, on}
use Rattle.def_state.specs.Image.{image_of}
use Rattle.def_state.specs.Mirrors.{vol_of}
use Rattle.def_step.specs.World.{Node, Serves, Runs}
use Rattle.law_found.specs.SceneWorlds.{bank, buyer, clerk, trade_world}
use Rattle.law_found.specs.Trade.{trade, put_part, fail, buy, book, bought, bank_log, buyer_log, clerk_log}
use Rattle.law_run.specs.ProgramBytes.{IsWord, fits_stmt, stmts_fit, HasBytes}
use Rattle.law_run.specs.WorldBytes.{NodeFits, PacketFits}
use Rattle.law_run.proofs.Plays.{word-is, fits-Set, fits-Send, fits-Put, fits-Txn}
use Rattle.law_scene.specs.Bank.{NumbersHaveBytes}

-- the program ---------------------------------------------------------------------------------------------

put-fits : stmts_fit put_part ≡ true
put-fits = ap (λ b. b && true) (fits-Put 0 (One (Param 0)))

fail-fits : stmts_fit fail ≡ true
fail-fits = ap (λ b. b && true) (fits-Set 0 (Two (Var 0) Add (Number (pos 1))))

add-fits : stmts_fit add ≡ true
add-fits = ap (λ b. b && true) (fits-Set 0 (Two (Var 0) Add (Param 0)))

abbrev note : Stmt
note = stmt.Send (com_at 2) 1 (Param 0 ∷ [])

module _ (a : Global) where
  buy-fits : stmts_fit (buy a) ≡ true
  buy-fits =
      ap (λ b. b && (fits_stmt note && true)) (fits-Txn (com_at 0) (body a put_part (lit< tt)) (body a [] (lit< tt)))
      ∙ ap (λ b. (b && true) && (fits_stmt note && true)) put-fits
      ∙ ap (λ b. b && true) (fits-Send (com_at 2) 1 (Param 0 ∷ []))

  book-fits : stmts_fit (book a) ≡ true
  book-fits =
      ap (λ b. b && true) (fits-Txn (com_at 0) (body a put_part (lit< tt)) (body a fail (lit< tt)))
      ∙ ap (λ b. (b && stmts_fit fail) && true) put-fits
      ∙ ap (λ b. b && true) fail-fits

  parts : (c handler : ℕ) → stmts_fit (stmts_of (handler_of (trade a) (record { 0 = c }) handler)) ≡ true
  parts zero handler = refl
  parts (suc zero) zero = buy-fits
  parts (suc zero) (suc handler) = refl
  parts (suc (suc zero)) zero = book-fits
  parts (suc (suc zero)) (suc zero) = add-fits
  parts (suc (suc zero)) (suc (suc handler)) = refl
  parts (suc (suc (suc c))) handler = refl

  zero-word : IsWord (pos 0)
  zero-word = word-is (pos 0) refl

  program : HasBytes (trade a)
  program = record {
    components = omega arith;
    each = (
      record { vars = omega arith; keys = omega arith; handlers = omega arith; params = λ k d l. absurd (omega (arith, l)); first_vars = tt; first_keys = (zero-word, tt) },
      (
        record { vars = omega arith; keys = omega arith; handlers = omega arith; params = one-value; first_vars = (zero-word, tt); first_keys = tt },
        (record { vars = omega arith; keys = omega arith; handlers = omega arith; params = two-values; first_vars = (zero-word, tt); first_keys = tt }, tt),
      ),
    );
    handlers = λ c handler. parts c.0 handler;
  }
    where
      one-value : All (λ (h : Handler). h.params ≤ VALUES) (on (body a (buy a) (lit< tt)) ∷ [])
      one-value zero d l = omega arith
      one-value (suc k) d l = absurd (omega (arith, l))

      two-values : All (λ (h : Handler). h.params ≤ VALUES) (on (body a (book a) (lit< tt)) ∷ on (body a add (lit< tt)) ∷ [])
      two-values zero d l = omega arith
      two-values (suc zero) d l = omega arith
      two-values (suc (suc k)) d l = absurd (omega (arith, l))

-- the world -----------------------------------------------------------------------------------------------

some-is : (x y : Node) → ◌≡◌ {A = Option Node} (Some x) (Some y) → x ≡ y
some-is x y e = cc

tested : (bytes : List ℕ) → list_all (λ b. nat_le b 255) bytes ≡ true → AllByRecursion (λ b. b < 2 ^ 8) bytes
tested [] e = tt
tested (b ∷ bs) e = at (nat_le b 255) refl (λ rest. tested bs rest) e
  where
    at : (t : Bool) → nat_le b 255 ≡ t → (list_all (λ b. nat_le b 255) bs ≡ true → AllByRecursion (λ b. b < 2 ^ 8) bs) → (t && list_all (λ b. nat_le b 255) bs) ≡ true → AllByRecursion (λ b. b < 2 ^ 8) (b ∷ bs)
    at true is more rest = let l = leb-true b 255 is in (omega (arith, l), more rest)
    at false is more rest = absurd (cc rest)

bank-fits : AllByRecursion Fits bank_log
bank-fits = ((omega arith, omega arith, (omega arith, omega arith), omega arith, ((omega arith, word-is (pos 30) refl), tt)), tt)

buyer-fits : AllByRecursion Fits buyer_log
buyer-fits = (
  (omega arith, (omega arith, omega arith, (word-is (pos 30) refl, tt))),
  (
    ((omega arith, omega arith), omega arith, omega arith, omega arith, word-is (pos 30) refl),
    ((omega arith, (omega arith, omega arith), tt), ((omega arith, tested (image_of (vol_of bought)) refl), tt)),
  ),
)

clerk-fits : AllByRecursion Fits clerk_log
clerk-fits = (
  (omega arith, (omega arith, omega arith, (word-is (pos 50) refl, tt))),
  ((omega arith, (omega arith, omega arith), (omega arith, (omega arith, omega arith))), ((omega arith, (omega arith, omega arith), omega arith), tt)),
)

at-place : (k : ℕ) (n : Node) → slice_get trade_world.nodes k ≡ Some n → NodeFits n
at-place zero n e = subst NodeFits (some-is (Serves bank) n e) (record { records = bank-fits; ledger = (word-is (pos 30) refl, tt); sittings = tt })
at-place (suc zero) n e = subst NodeFits (some-is (Runs buyer) n e) (record { forced = buyer-fits; buffered = tt })
at-place (suc (suc zero)) n e = subst NodeFits (some-is (Runs clerk) n e) (record { forced = clerk-fits; buffered = tt })
at-place (suc (suc (suc k))) n e = absurd (cc e)

packets : AllByRecursion PacketFits trade_world.packets
packets = (word-is (pos 30) refl, (tt, (tt, (word-is (pos 30) refl, (tt, (tt, (tt, (word-is (pos 50) refl, (tt, (tt, tt))))))))))

pub numbers_have_bytes : NumbersHaveBytes
numbers_have_bytes a = (program a, record { nodes = λ c n e. at-place c.0 n e; packets = packets })
