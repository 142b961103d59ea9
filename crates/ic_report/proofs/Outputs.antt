-- What is put one after another.
use Rattle.std.proofs.Common.{◌≡◌, refl, ap, sym, ◌∙◌, subst, ◌↔◌, ℕ, ◌≤◌, List, [], ◌∷◌, ◌++◌, arith, le_refl, append_assoc}
use Rattle.std.specs.List.{concat}
use Rattle.std.proofs.lemmas.List.{append-nil}
use Rattle.std.proofs.lemmas.List.Folds.{concat-append}
use Rattle.ic_disk.specs.Causes.{Rose, IsFront}
use Rattle.ic_disk.specs.declared.sink.Sink.{Ghosts}
use Rattle.ic_report.specs.Outputs.{Puts, FailsToPut}

-- bytes behind bytes behind bytes
joined : (old mid new : List ℕ) (first second : List (List ℕ)) → mid ≡ old ++ concat first → new ≡ mid ++ concat second → new ≡ old ++ concat (first ++ second)
joined old mid new first second m n =
    n ∙ ap (λ l. l ++ concat second) m ∙ append_assoc old (concat first) (concat second) ∙ ap (λ l. old ++ l) (sym (concat-append first second))

-- pieces behind pieces behind pieces
behind : (old mid new first second : List (List ℕ)) → mid ≡ old ++ first → new ≡ mid ++ second → new ≡ old ++ (first ++ second)
behind old mid new first second m n = n ∙ ap (λ (l : List (List ℕ)). l ++ second) m ∙ append_assoc old first second

module _ {K : Type 0} (k : Ghosts K) where
  -- nothing is put
  pub puts_nothing : (out : K) → Puts k [] out out
  puts_nothing out = record {
    tells = (λ t. t, λ t. t);
    taken = λ t. sym (append-nil (k.taken out));
    put = sym (append-nil (k.pieces out));
    later = le_refl (k.faults out);
  }

  -- one piece is put whole
  pub puts_one : (piece : List ℕ) (old new : K) → (k.tells old ↔ k.tells new) → (k.tells old → k.taken new ≡ k.taken old ++ piece) → k.pieces new ≡ k.pieces old ++ piece ∷ [] → k.faults old ≤ k.faults new → Puts k (piece ∷ []) old new
  puts_one piece old new tells taken put later = record {
    tells = tells;
    taken = λ t. taken t ∙ ap (λ l. k.taken old ++ l) (sym (append-nil piece));
    put = put;
    later = later;
  }

  -- the output failed at the only piece
  pub fails_one : (piece : List ℕ) (old new : K) → (k.tells old ↔ k.tells new) → (k.tells old → IsFront (k.taken old) piece (k.taken new)) → k.pieces new ≡ k.pieces old ++ piece ∷ [] → k.faults old ≤ k.faults new → Rose (k.faults old) (k.faults new) → FailsToPut k (piece ∷ []) old new
  fails_one piece old new tells taken put later failed = record {
    whole = [];
    piece = piece;
    behind = [];
    is = refl;
    tells = tells;
    taken = λ t. let P : List ℕ → Type 0 = λ before. IsFront before piece (k.taken new) in subst P (sym (append-nil (k.taken old))) (taken t);
    put = put;
    later = later;
    failed = failed;
  }

  -- some pieces are put, and then others
  pub puts_then : (first second : List (List ℕ)) (old mid new : K) → Puts k first old mid → Puts k second mid new → Puts k (first ++ second) old new
  puts_then first second old mid new f s = record {
    tells = (λ t. s.tells.0 (f.tells.0 t), λ t. f.tells.1 (s.tells.1 t));
    taken = λ t. joined (k.taken old) (k.taken mid) (k.taken new) first second (f.taken t) (s.taken (f.tells.0 t));
    put = behind (k.pieces old) (k.pieces mid) (k.pieces new) first second f.put s.put;
    later = omega (arith, f.later, s.later);
  }

  risen : (old mid new : ℕ) → old ≤ mid → Rose mid new → Rose old new
  risen old mid new later rose = omega (arith, later, rose)

  -- some pieces are put, and at others the output fails
  pub puts_then_fails : (first second : List (List ℕ)) (old mid new : K) → Puts k first old mid → FailsToPut k second mid new → FailsToPut k (first ++ second) old new
  puts_then_fails first second old mid new f s = record {
    whole = first ++ s.whole;
    piece = s.piece;
    behind = s.behind;
    is = ap (λ (l : List (List ℕ)). first ++ l) s.is ∙ sym (append_assoc first s.whole (s.piece ∷ s.behind));
    tells = (λ t. s.tells.0 (f.tells.0 t), λ t. f.tells.1 (s.tells.1 t));
    taken = λ t.
        let P : List ℕ → Type 0 = λ before. IsFront before s.piece (k.taken new) in
        subst P (joined (k.taken old) (k.taken mid) (k.taken mid ++ concat s.whole) first s.whole (f.taken t) refl) (s.taken (f.tells.0 t));
    put = behind (k.pieces old) (k.pieces mid) (k.pieces new) first (s.whole ++ s.piece ∷ []) f.put s.put ∙ ap (λ (l : List (List ℕ)). k.pieces old ++ l) (sym (append_assoc first s.whole (s.piece ∷ [])));
    later = omega (arith, f.later, s.later);
    failed = risen (k.faults old) (k.faults mid) (k.faults new) f.later s.failed;
  }

  -- the output fails within pieces behind which there are more
  pub fails_before : (first second : List (List ℕ)) (old new : K) → FailsToPut k first old new → FailsToPut k (first ++ second) old new
  fails_before first second old new f = record {
    whole = f.whole;
    piece = f.piece;
    behind = f.behind ++ second;
    is = ap (λ (l : List (List ℕ)). l ++ second) f.is ∙ append_assoc f.whole (f.piece ∷ f.behind) second;
    tells = f.tells;
    taken = f.taken;
    put = f.put;
    later = f.later;
    failed = f.failed;
  }
