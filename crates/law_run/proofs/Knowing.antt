-- What an explained world whose records have their bytes gives of a live Pcom, of a packet, and of images.
use Rattle.std.proofs.Common.{◌≡◌, refl, ◌∙◌, ap, sym, subst, ℕ, suc, ◌<◌, ◌^◌, ◌==◌, true, List, [], ◌∷◌, ◌++◌, map, length, slice_get, Some, arith}
use Rattle.std.specs.Prelude.{Contains, filter_map}
use Rattle.std.specs.List.{AllByRecursion}
use Rattle.ic_base.specs.declared.limits.TheConstants.{REQUESTS}
use Rattle.ic_base.specs.declared.messages.ComId.{ComId}
use Rattle.ic_base.specs.declared.messages.Msg.{Msg}
use Rattle.ic_base.specs.declared.messages.Packet.{Packet}
use Rattle.ic_base.specs.declared.messages.Packet.TheVariants.{Data, Stable, Installed, Fetch, Op, OpReply, Commit, Outcome, Drop}
use Rattle.ic_base.specs.declared.messages.Session.{Session}
use Rattle.ic_base.specs.declared.record.Record.{Record}
use Rattle.ic_base.specs.declared.record.Record.TheVariants.{Checkpoint}
use Rattle.ic_base.specs.declared.scenario.Program.{Program}
use Rattle.def_log.specs.Spelling.{Fits}
use Rattle.def_state.specs.Hist.{Hist}
use Rattle.def_state.specs.Image.{image_of}
use Rattle.def_state.specs.Mirrors.{Mirrors, vol_of}
use Rattle.def_state.specs.Txn.{Stage, Idle, Waiting, Answered, Committing, is_awaited_at}
use Rattle.def_step.specs.Pcom.{Pcom, all_of}
use Rattle.def_step.specs.World.{World, Node, Runs, Serves, Down, External, node_at}
use Rattle.def_facts.specs.Logs.{Logs, contents_in, log_at, values_of, message_in}
use Rattle.def_facts.specs.Pcom.{state_after}
use Rattle.def_facts.specs.Playable.{IsPlayable}
use Rattle.def_facts.specs.World.{Past, IsExplainedBy, forced_of, records_of, forced_logs, whole_logs}
use Rattle.law_replay.proofs.Talked.{StageIs}
use Rattle.law_replay.proofs.Talks.{states-talk}
use Rattle.law_image.specs.Readable.{OutputFits}
use Rattle.law_pcom.proofs.Calls.{image-mirrored, vol-mirrors}
use Rattle.law_pcom.proofs.Living.{lives}
use Rattle.law_replay.proofs.Lists.{none-some, true-false, front, equal-numbers, open-content}
use Rattle.law_replay.proofs.Members.{found, mapped-has}
use Rattle.law_settle.proofs.Tables.{all-map}
use Rattle.law_settle.proofs.Quiet.{mirrored_at}
use Rattle.law_settle.proofs.Walks.{all-append, all-front}
use Rattle.law_sound.proofs.Explained.{cut-family, cut-sound, forced-cut}
use Rattle.law_sound.proofs.Messages.{messages_are_plain}
use Rattle.law_step.proofs.Nodes.{log-here}
use Rattle.law_run.specs.ProgramBytes.{HasBytes}
use Rattle.law_run.specs.WorldBytes.{LogFits, NodeFits, PacketFits, WorldFits, ImagesHaveBytes}
use Rattle.law_run.proofs.Cells.{each-of}
use Rattle.law_run.proofs.Deciding.{Known, GotFits}
use Rattle.law_run.proofs.HasImages.{has_image, output-fits}
use Rattle.law_run.proofs.Hists.{ContentsFit, hist_fits}
use Rattle.law_run.proofs.ImageBytes.{AreBytes, image_bytes}
use Rattle.law_run.proofs.Living.{mirrored-fits}
use Rattle.law_run.proofs.Received.{received_words}
use Rattle.law_run.proofs.RunBytes.{plain_run_fits, message-fits}

-- lists -------------------------------------------------------------------------------------------

all-places : {A : Type 0} (P : A → Type 0) (xs : List A) → ((i : ℕ) (x : A) → slice_get xs i ≡ Some x → P x) → AllByRecursion P xs
all-places P [] h = tt
all-places P (x ∷ xs) h = (h 0 x refl, all-places P xs (λ i y e. h (suc i) y e))

pub unmapped : {A B : Type 0} (P : B → Type 0) (f : A → B) (xs : List A) → AllByRecursion P (map f xs) → AllByRecursion (λ x. P (f x)) xs
unmapped P f [] h = tt
unmapped P f (x ∷ xs) h = (h.0, unmapped P f xs h.1)

-- logs --------------------------------------------------------------------------------------------

forced-node : (n : Node) → NodeFits n → AllByRecursion Fits (forced_of n)
forced-node (Runs p) h = h.forced
forced-node (Serves x) h = h.records
forced-node (Down log) h = h
forced-node External h = tt

pub forced-fit : (w : World) → WorldFits w → AllByRecursion (AllByRecursion Fits) (forced_logs w)
forced-fit w h = all-map NodeFits (AllByRecursion Fits) forced_of forced-node w.nodes (all-places NodeFits w.nodes (λ i n e. h.nodes (record { 0 = i }) n e))

-- what is received --------------------------------------------------------------------------------

content-came : (received : List Packet) (s : ComId) (k : ℕ) (m : Msg) → contents_in received s k ≡ Some m → Contains received (Data m)
content-came received s k m e =
    let y = mapped-has message_in received m (found _ (filter_map message_in received) m e).0 in
    subst (Contains received) (is-data y.0 y.2) y.1
  where
    is-data : (p : Packet) → message_in p ≡ Some m → p ≡ Data m
    is-data (Data n) f = ap (λ x. Data x) (same n f)
      where
        same : (x : Msg) → Some x ≡ Some m → x ≡ m
        same x g = cc g
    is-data (Stable from to n) f = none-some m f
    is-data (Installed from to n) f = none-some m f
    is-data (Fetch from to n) f = none-some m f
    is-data (Op from to n place session request) f = none-some m f
    is-data (OpReply from to n place session value) f = none-some m f
    is-data (Commit from to n place session stamp) f = none-some m f
    is-data (Outcome from to n place session decision) f = none-some m f
    is-data (Drop from to n) f = none-some m f

pub contents-fit : (program : Program) (found : Logs) (here : ComId → ℕ) (w : World) (past : Past) → HasBytes program → WorldFits w → IsExplainedBy program found here w past → (c : ComId) → ContentsFit (contents_in (past.received c))
contents-fit program found here w past bytes fits f c s n m e = received_words program found here w past bytes f (forced-fit w fits) c m (content-came (past.received c) s n m e)

-- a packet that was put out
pub got-fits : (program : Program) (found : Logs) (here : ComId → ℕ) (w : World) (past : Past) → HasBytes program → WorldFits w → IsExplainedBy program found here w past → (p : Packet) → Contains w.packets p → PacketFits p → GotFits p
got-fits program found here w past bytes fits f (Data m) there h =
    let cut = forced-cut program found here w past f in
    let s = cut-sound program found here w past f (forced_logs w) cut in
    message-fits s.0 m.from m.to m.k _ (plain_run_fits program (forced_logs w) s.0 bytes (forced-fit w fits) s.1.legal)
    (messages_are_plain program found (forced_logs w) (whole_logs w) (forced_logs w) past s.0 f.logs (cut-family program found here w past f (forced_logs w) cut) s.1.legal m.from m (f.packets.sent (Data m) there))
got-fits program found here w past bytes fits f (OpReply from to n place session value) there h = h
got-fits program found here w past bytes fits f (Stable from to n) there h = tt
got-fits program found here w past bytes fits f (Installed from to n) there h = tt
got-fits program found here w past bytes fits f (Fetch from to n) there h = tt
got-fits program found here w past bytes fits f (Op from to n place session request) there h = tt
got-fits program found here w past bytes fits f (Commit from to n place session stamp) there h = tt
got-fits program found here w past bytes fits f (Outcome from to n place session decision) there h = tt
got-fits program found here w past bytes fits f (Drop from to n) there h = tt

-- a live Pcom -------------------------------------------------------------------------------------

-- an awaited answer is at a place below the number of requests that a part may make
pub awaited-low : (program : Program) (c : ComId) (h : Hist) (log : List Record) → IsPlayable program → (s : Stage) → StageIs program c (values_of log h.plain.begun) h.plain h.now s → (place : ℕ) (session : Session) → is_awaited_at s place session ≡ true → place < 2 ^ 16
awaited-low program c h log good Idle x place session e = true-false e
awaited-low program c h log good (Answered t p r q) x place session e = true-false e
awaited-low program c h log good (Committing t p r) x place session e = true-false e
awaited-low program c h log good (Waiting t p r q) x place session e =
    low (length h.now) p place x.1 (equal-numbers p place (front (p == place) _ e)) (good.asks_keys c x.0.hand.handler h.plain.vars x.0.hand.args x.0.hand.done h.now t q x.0.results x.2).2
  where
    low : (a b d : ℕ) → a ≡ b → b ≡ d → a < REQUESTS → d < 2 ^ 16
    low a b d f g lt = omega (arith, f, g, lt)

pub known : (program : Program) (found : Logs) (here : ComId → ℕ) (w : World) (past : Past) (c : ComId) (p : Pcom) → HasBytes program → IsPlayable program → WorldFits w → IsExplainedBy program found here w past → node_at w c ≡ Some (Runs p) → Known program c p.vol
known program found here w past c p bytes good fits f is =
    let v = mirrored_at program found here w past c p f is in
    let y = open-content (Mirrors p.vol) (state_after program c (past.received c) v.played) v.mirrors in
    let own = contents-fit program found here w past bytes fits f c in
    let log : LogFits p.log = fits.nodes c (Runs p) is in
    let played = all-front Fits v.played p.rest (subst (AllByRecursion Fits) v.rest_stands (all-of p log)) in
    let x = hist_fits program c (contents_in (past.received c)) v.played y.0 bytes good own played y.1 in
    record {
      values = mirrored-fits program c p.vol y.0 y.2 x;
      outputs = unmapped OutputFits (λ w. w.output) p.vol.shelf.waiting
          (subst (AllByRecursion OutputFits) (sym y.2.waiting) (each-of OutputFits y.0.unshown (λ o has. output-fits program c y.0 o bytes x ((lives program c (contents_in (past.received c)) v.played y.0 y.1).unshown_made o has))));
      places = λ place session e. awaited-low program c y.0 v.played good y.0.stage (states-talk program c (contents_in (past.received c)) v.played y.0 good y.1).stage place session (ap (λ t. is_awaited_at t.stage place session) (sym y.2.txn) ∙ e);
      image = λ small.
          let same = image-mirrored p.vol (vol_of y.0) y.0 y.2 (vol-mirrors y.0) in
          subst AreBytes (sym same) (image_bytes c (vol_of y.0) (has_image program c (contents_in (past.received c)) v.played y.0 bytes good own played y.1 (subst (λ l. length l < 2 ^ 32) same small)));
    }
  where
    all-of : (q : Pcom) → LogFits q.log → AllByRecursion Fits (all_of q.log)
    all-of q h = all-append Fits q.log.forced q.log.buffered h.forced h.buffered

-- images ------------------------------------------------------------------------------------------

pub middle : (pre post : List Record) (r : Record) (log : List Record) → log ≡ pre ++ r ∷ post → AllByRecursion Fits log → AllByRecursion Fits pre × Fits r
middle pre post r log e h = at pre (subst (AllByRecursion Fits) e h)
  where
    at : (xs : List Record) → AllByRecursion Fits (xs ++ r ∷ post) → AllByRecursion Fits xs × Fits r
    at [] k = (tt, k.0)
    at (x ∷ xs) k = let y = at xs k.1 in ((k.0, y.0), y.1)

pub images_have_bytes : ImagesHaveBytes
images_have_bytes program found here w past c log bytes good fits f is pcom pre post image h stands after_pre none =
    let parts = middle pre post (Checkpoint image) log stands (fits.nodes c (Down log) is) in
    let whole = (f.logs.pcoms c pcom).whole in
    let own : log_at (whole_logs w) c ≡ log = log-here records_of w c (Down log) is in
    let y = open-content (λ g. image ≡ image_of (vol_of g)) (state_after program c (past.received c) pre) (whole.image_is pre post image (own ∙ stands)) in
    let same : image ≡ image_of (vol_of h) = y.2 ∙ ap (λ g. image_of (vol_of g)) (same-hist y.0 h (sym y.1 ∙ after_pre)) in
    has_image program c (contents_in (past.received c)) pre h bytes good (contents-fit program found here w past bytes fits f c) parts.0 after_pre (subst (λ l. length l < 2 ^ 32) same parts.1.0)
  where
    same-hist : (a b : Hist) → Some a ≡ Some b → a ≡ b
    same-hist a b e = cc e
