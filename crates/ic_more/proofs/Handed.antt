-- The disks of a script's components, taken from those of a call and put back: what a run over them comes to for the call.
use Rattle.std.proofs.Common.{◌≡◌, ◌∙◌, sym, ap, subst, refl, inl, inr, ℕ, List, [], ◌∷◌, ◌++◌, length, take, drop, length-append, arith}
use Rattle.def_two.specs.declared.script.TwoWhy.TheVariants as starts
use Rattle.def_two.specs.Ends.{AreOpenings}
use Rattle.def_two.specs.Script.{TheScript, openings_of}
use Rattle.ic_disk.specs.declared.disk.Disk as disk
use Rattle.ic_disk.specs.declared.sink.Sink as sink
use Rattle.ic_two_world.specs.Opening.{AreKept}
use Rattle.ic_two_world.proofs.Disks.{kept-self}
use Rattle.ic_more.specs.Calls.{RunsThis}
use Rattle.ic_more.specs.Lending.{components_of, own}
use Rattle.ic_more.specs.Runs.{Runs}
use Rattle.ic_more.specs.declared.ending.Why2.TheVariants.{Memory}
use Rattle.ic_more.proofs.Whole.{completes}

front : {D : Type 0} (xs ys : List D) → take (length xs) (xs ++ ys) ≡ xs
front [] ys = refl
front (x ∷ xs) ys = ap (λ l. x ∷ l) (front xs ys)

behind : {D : Type 0} (xs ys : List D) → drop (length xs) (xs ++ ys) ≡ ys
behind [] ys = refl
behind (x ∷ xs) ys = behind xs ys

front-of : {D : Type 0} (xs ys : List D) (n : ℕ) → length xs ≡ n → take n (xs ++ ys) ≡ xs
front-of xs ys n long = ap (λ m. take m (xs ++ ys)) (sym long) ∙ front xs ys

behind-of : {D : Type 0} (xs ys : List D) (n : ℕ) → length xs ≡ n → drop n (xs ++ ys) ≡ ys
behind-of xs ys n long = ap (λ m. drop m (xs ++ ys)) (sym long) ∙ behind xs ys

module _ {D : Type 0} (b : disk.Ghosts D) {K : Type 0} (k : sink.Ghosts K) (s : TheScript) (print : List ℕ) (opened : AreOpenings (openings_of s)) (long : length print ≡ 32) where
  pub runs-this : (taken rest back disks now : List D) (before after : K) (status : ℕ) → disks ≡ taken ++ rest → length taken ≡ components_of s → now ≡ back ++ rest → AreKept b taken back → Runs b s print taken back k before after status → RunsThis b k disks now before after status s print
  runs-this taken rest back disks now before after status was count is kept runs =
      let own-was : own s disks ≡ taken = ap (own s) was ∙ front-of taken rest (components_of s) count in
      let own-is : own s now ≡ back = ap (own s) is ∙ front-of back rest (components_of s) (kept.count ∙ count) in
      let ran : Runs b s print (own s disks) (own s now) k before after status = subst (λ l. Runs b s print l (own s now) k before after status) (sym own-was) (subst (λ l. Runs b s print taken l k before after status) (sym own-is) runs) in
      record {
        runs = ran;
        back = record {
          count = omega (arith, ap length is, ap length was, length-append back rest, length-append taken rest, kept.count);
          kept = subst (λ l. AreKept b l (own s now)) (sym own-was) (subst (AreKept b taken) (sym own-is) kept);
          others = ap (drop (components_of s)) is ∙ behind-of back rest (components_of s) (kept.count ∙ count) ∙ sym (ap (drop (components_of s)) was ∙ behind-of taken rest (components_of s) count);
        };
        completes = completes b k s print (own s disks) (own s now) before after status opened long ran;
      }

-- no memory to take them
pub no-room : {D : Type 0} (b : disk.Ghosts D) {K : Type 0} (k : sink.Ghosts K) (s : TheScript) (print : List ℕ) (disks now : List D) (before : K) → now ≡ disks → RunsThis b k disks now before before 12 s print
no-room b k s print disks now before same =
    subst (λ l. RunsThis b k disks l before before 12 s print) (sym same) (record {
      runs = inr (record {
        why = Memory;
        comes = inl (record { start = starts.Memory; is = refl; cause = record { refused = λ told. tt; failed = tt; stay = tt } });
        ends = (refl, refl);
      });
      back = record { count = refl; kept = kept-self b (own s disks); others = refl };
      completes = λ u. inr (inl refl);
    })
