-- What a component received was put out, and is true of the sender's log.
use Rattle.std.proofs.Common.{◌≡◌, refl, sym, subst, ℕ, ◌<◌, Bool, true, false, cond, ◌==◌, List, [], ◌∷◌, filter_map, find, Some, arith}
use Rattle.std.specs.Prelude.{Contains, IsTrue, ⊤}
use Rattle.std.proofs.lemmas.Option.{same_Some}
use Rattle.ic_base.specs.declared.messages.ComId.{ComId}
use Rattle.ic_base.specs.declared.messages.Msg.{Msg}
use Rattle.ic_base.specs.declared.messages.Packet.{Packet}
use Rattle.ic_base.specs.declared.messages.Packet.TheVariants.{Data, Stable, Installed, Fetch, Op, OpReply, Commit, Outcome, Drop}
use Rattle.ic_base.specs.declared.scenario.Program.{Program}
use Rattle.ic_base.specs.Programs.{same_com, is_a_pcom, is_a_tcom}
use Rattle.def_facts.specs.Logs.{Logs, log_at, contents_in, message_in, has_identity}
use Rattle.def_facts.specs.Pcom.{IsTrueOf}
use Rattle.def_facts.specs.Tcom.{is_answer}
use Rattle.def_facts.specs.World.{Past}
use Rattle.law_replay.proofs.Lists.{none-some, front, back, in-head, in-tail, equal-numbers, same-com, open-content}
use Rattle.law_sound.specs.Order.{Explains, WasSent, ContentsAgree, WholeContentsAgree}

-- a message that is found among packets stands in one of them
pub found-data : (test : Msg → Bool) (ps : List Packet) (m : Msg) → find test (filter_map message_in ps) ≡ Some m → (test m ≡ true) × Contains ps (Data m)
found-data test [] m e = none-some m e
found-data test (Data x ∷ ps) m e = at (test x) refl e (found-data test ps m)
  where
    at : (b : Bool) → test x ≡ b → cond b (Some x) (find test (filter_map message_in ps)) ≡ Some m → (find test (filter_map message_in ps) ≡ Some m → (test m ≡ true) × Contains ps (Data m)) → (test m ≡ true) × Contains (Data x ∷ ps) (Data m)
    at true is f more = let same : x ≡ m = same_Some x m f in (subst (λ y. test y ≡ true) same is, subst (λ y. Contains (Data x ∷ ps) (Data y)) same (in-head (Data x) ps))
    at false is f more = let y = more f in (y.0, in-tail (Data x) (Data m) ps y.1)
found-data test (Stable from to k ∷ ps) m e = let y = found-data test ps m e in (y.0, in-tail (Stable from to k) (Data m) ps y.1)
found-data test (Installed from to k ∷ ps) m e = let y = found-data test ps m e in (y.0, in-tail (Installed from to k) (Data m) ps y.1)
found-data test (Fetch from to k ∷ ps) m e = let y = found-data test ps m e in (y.0, in-tail (Fetch from to k) (Data m) ps y.1)
found-data test (Op from to n place session q ∷ ps) m e = let y = found-data test ps m e in (y.0, in-tail (Op from to n place session q) (Data m) ps y.1)
found-data test (OpReply from to n place session v ∷ ps) m e = let y = found-data test ps m e in (y.0, in-tail (OpReply from to n place session v) (Data m) ps y.1)
found-data test (Commit from to n place session stamp ∷ ps) m e = let y = found-data test ps m e in (y.0, in-tail (Commit from to n place session stamp) (Data m) ps y.1)
found-data test (Outcome from to n place session d ∷ ps) m e = let y = found-data test ps m e in (y.0, in-tail (Outcome from to n place session d) (Data m) ps y.1)
found-data test (Drop from to n ∷ ps) m e = let y = found-data test ps m e in (y.0, in-tail (Drop from to n) (Data m) ps y.1)

-- what was put out, and by whom: a Pcom puts out what is true of its log, a Tcom answers alone, nobody else puts out anything
pub by-pcom : (program : Program) (found logs : Logs) (past : Past) → Explains program found logs past → (s : ComId) (p : Packet) → is_answer p ≡ false → Contains (past.sent s) p → IsTrue (is_a_pcom program s) × IsTrueOf program s (log_at logs s) (past.received s) p
by-pcom program found logs past f s p no_answer x = at (is_a_pcom program s) refl (is_a_tcom program s) refl
  where
    clash : {B : Type 0} (b : Bool) → b ≡ true → b ≡ false → B
    clash true u v = absurd (cc)
    clash false u v = absurd (cc)

    empty : {B : Type 0} → past.sent s ≡ [] → B
    empty e = absurd (none (subst (λ l. Contains l p) e x))
      where
        none : Contains [] p → ⊥
        none (k, lt, is) = omega (arith, lt)

    at : (a : Bool) → is_a_pcom program s ≡ a → (b : Bool) → is_a_tcom program s ≡ b → IsTrue (is_a_pcom program s) × IsTrueOf program s (log_at logs s) (past.received s) p
    at true is b be = (is, (f.pcoms s is).lasting.packets_true p x)
    at false is true be = clash (is_answer p) ((f.tcoms s be).1.answers_only p x) no_answer
    at false is false be = empty (f.others s is be).1

found-sent : (program : Program) (found logs : Logs) (past : Past) → Explains program found logs past → (c s : ComId) (k stamp : ℕ) (Says : Msg → Type 0) → (m : Msg) → contents_in (past.received c) s k ≡ Some m → m.stamp < stamp → Says m → WasSent program logs past c s k stamp Says
found-sent program found logs past f c s k stamp Says m is lt says =
    let x = found-data (has_identity s k) (past.received c) m is in
    let from : s ≡ m.from = same-com s m.from (front (same_com s m.from) (k == m.k) x.0) in
    let number : k ≡ m.k = equal-numbers k m.k (back (same_com s m.from) (k == m.k) x.0) in
    let net = f.network c (Data m) x.1 in
    let sent : Contains (past.sent s) (Data m) = subst (λ d. Contains (past.sent d) (Data m)) (sym from) net.1 in
    let y = by-pcom program found logs past f s (Data m) refl sent in
    (m, is, sym from, net.0, sym number, lt, says, y.0, y.1)

pub contents_agree : ContentsAgree
contents_agree program found logs past f c s pre post k stamp is st =
    let x = open-content (λ m. m.stamp < stamp) (contents_in (past.received c) s k) ((f.pcoms c is).whole.take_received pre post s k stamp st) in
    found-sent program found logs past f c s k stamp (λ m. ⊤) x.0 x.1 x.2 tt

pub whole_contents_agree : WholeContentsAgree
whole_contents_agree program found logs past f c s pre post k stamp handler args is st =
    let x = open-content (λ m. (m.stamp < stamp) × (m.handler ≡ handler) × (m.args ≡ args)) (contents_in (past.received c) s k) ((f.pcoms c is).whole.whole_received pre post s k stamp handler args st) in
    found-sent program found logs past f c s k stamp (λ m. (m.handler ≡ handler) × (m.args ≡ args)) x.0 x.1 x.2.0 (x.2.1, x.2.2)
