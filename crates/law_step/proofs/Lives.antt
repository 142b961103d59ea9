-- The greatest outputs of the present lives behind an event.
use Rattle.std.proofs.Common.{◌≡◌, refl, ◌∙◌, ap, sym, subst, ℕ, ◌≤◌, ◌==◌, not, cond, [], ◌++◌, map, length, Option, Some, None, option_to_list, arith}
use Rattle.std.proofs.lemmas.List.{drop_at}
use Rattle.std.proofs.Math.Seq.{drop-length}
use Rattle.ic_base.specs.declared.messages.ComId.{ComId}
use Rattle.ic_base.specs.declared.scenario.Program.{Program}
use Rattle.def_step.specs.World.{World, Node, Runs, Serves, Down, External, Done, node_at, world_with, takes_off}
use Rattle.def_facts.specs.Logs.{Logs, log_at}
use Rattle.def_facts.specs.Pcom.{state_after}
use Rattle.def_facts.specs.World.{Past, ShowingFacts, IsExplainedBy, forced_logs, whole_logs, shown_by}
use Rattle.law_replay.proofs.Lists.{self-com, some-goes}
use Rattle.law_replay.proofs.Members.{filter-has}
use Rattle.law_step.specs.Steps.{newly_shown, life_of, here_behind}
use Rattle.law_step.proofs.Nodes.{each-com, node-same, node-other}
use Rattle.law_step.proofs.Stepped.{here_with, shown-same, shown-other}

-- less may be said to have been shown in a life
pub shorter : (program : Program) (found : Logs) (here less : ComId → ℕ) (w : World) (past : Past) → ((c : ComId) → less c ≤ here c) → IsExplainedBy program found here w past → IsExplainedBy program found less w past
shorter program found here less w past le f = record {
  kinds = f.kinds;
  logs = f.logs;
  pcoms = f.pcoms;
  tcoms = f.tcoms;
  packets = f.packets;
  showings = λ c is. some-goes
      (λ h. ShowingFacts (log_at found c) (log_at (forced_logs w) c) (log_at (whole_logs w) c) (here c) h (shown_by c w.showings))
      (λ h. ShowingFacts (log_at found c) (log_at (forced_logs w) c) (log_at (whole_logs w) c) (less c) h (shown_by c w.showings))
      (state_after program c (past.received c) (log_at (forced_logs w) c))
      (λ h s. record {
        top = s.top;
        found_forced = s.found_forced;
        forced_all = s.forced_all;
        recorded_shown = s.recorded_shown;
        top_made = s.top_made;
        here_recorded = omega (arith, le c, s.here_recorded);
        firsts_are = s.firsts_are;
        each_made = s.each_made;
      }) (f.showings c is);
  shown_by = f.shown_by;
}

same-life : (n : ℕ) (o : Option Node) → life_of n [] o o ≤ n
same-life n None = least n
  where
    least : (m : ℕ) → 0 ≤ m
    least m = omega arith
same-life n (Some (Runs p)) = self n
  where
    self : (m : ℕ) → m ≤ m
    self m = omega arith
same-life n (Some (Serves x)) = least n
  where
    least : (m : ℕ) → 0 ≤ m
    least m = omega arith
same-life n (Some (Down log)) = least n
  where
    least : (m : ℕ) → 0 ≤ m
    least m = omega arith
same-life n (Some External) = least n
  where
    least : (m : ℕ) → 0 ≤ m
    least m = omega arith

pub new-ones : (w : World) (c e : ComId) (d : Done) → newly_shown e w (world_with w c d) ≡ shown_by e ([] ++ map (λ o. (c, o)) (option_to_list d.shown))
new-ones w c e d = ap (shown_by e) (drop_at w.showings (map (λ o. (c, o)) (option_to_list d.shown)) (length w.showings) refl)

-- the present lives behind an event of c
pub behind-here : (here : ComId → ℕ) (w : World) (c : ComId) (node : Node) (d : Done) (life : ℕ) → node_at w c ≡ Some node → life_of (here c) (option_to_list d.shown) (Some node) (Some d.node) ≤ life → (e : ComId) → here_behind here w (world_with w c d) e ≤ here_with here c life e
behind-here here w c node d life is le = each-com c (λ e. here_behind here w (world_with w c d) e ≤ here_with here c life e)
    (subst (λ n. here_behind here w (world_with w c d) c ≤ n) (sym (ap (λ b. cond b life (here c)) (self-com c)))
    (subst (λ o. life_of (here c) (newly_shown c w (world_with w c d)) (node_at w c) o ≤ life) (sym (node-same w c d node is))
    (subst (λ o. life_of (here c) (newly_shown c w (world_with w c d)) o (Some d.node) ≤ life) (sym is)
    (subst (λ l. life_of (here c) l (Some node) (Some d.node) ≤ life) (sym (new-ones w c c d ∙ shown-same c [] d.shown)) le))))
    (λ e apart. subst (λ n. here_behind here w (world_with w c d) e ≤ n) (sym (ap (λ b. cond b life (here e)) apart))
    (subst (λ o. life_of (here e) (newly_shown e w (world_with w c d)) (node_at w e) o ≤ here e) (sym (node-other w c e d apart))
    (subst (λ l. life_of (here e) l (node_at w e) (node_at w e) ≤ here e) (sym (new-ones w c e d ∙ shown-other c e [] d.shown apart)) (same-life (here e) (node_at w e)))))

-- where nothing happens
pub same-here : (here : ComId → ℕ) (w : World) (c : ComId) → here_behind here w w c ≤ here c
same-here here w c = subst (λ l. life_of (here c) (shown_by c l) (node_at w c) (node_at w c) ≤ here c) (sym (drop-length w.showings)) (same-life (here c) (node_at w c))

-- a packet that waits no longer
pub taken-off : (program : Program) (found : Logs) (here : ComId → ℕ) (w : World) (past : Past) (i : ℕ) → IsExplainedBy program found here w past → IsExplainedBy program found here (takes_off w i) past
taken-off program found here w past i f = record {
  kinds = f.kinds;
  logs = f.logs;
  pcoms = f.pcoms;
  tcoms = f.tcoms;
  packets = record {
    sent = f.packets.sent;
    numbered = λ j h. f.packets.numbered j (filter-has (λ k. not (i == k)) w.waiting j h).0;
    epochs_rise = f.packets.epochs_rise;
    one_owner = f.packets.one_owner;
    outcomes_answer = f.packets.outcomes_answer;
  };
  showings = f.showings;
  shown_by = f.shown_by;
}
