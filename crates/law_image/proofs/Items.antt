-- The items of an image: what each is read as, and by which tests.
use Rattle.std.proofs.Common.{◌≡◌, ℕ, zero, suc, ◌+◌, Bool, true, false, cond, List, [], ◌∷◌, ◌++◌, length, map, Option, Some, None, refl, ap, sym, subst, ◌∙◌, ℤ, arith}
use Rattle.std.specs.Prelude.{◌&&◌, ◌||◌, ◌==◌, nat_lt, nat_le, Result, Ok, Err, option_and_then}
use Rattle.std.specs.List.{list_all}
use Rattle.std.specs.Int.{w8, w32}
use Rattle.std.proofs.lemmas.Bool.{and_parts, and_from, leb-true}
use Rattle.ic_base.specs.declared.limits.TheConstants.{VALUES}
use Rattle.ic_base.specs.declared.messages.ComId.{ComId}
use Rattle.ic_base.specs.declared.scenario.Program.{Program}
use Rattle.ic_base.specs.Programs.{is_a_tcom, is_an_xcom, is_other_pcom}
use Rattle.def_log.specs.Reading.{number_at, tested_at, time_at, count_at, com_at, value_at, values_at, args_at}
use Rattle.def_log.proofs.Takes.{tested_takes}
use Rattle.def_log.proofs.Again.{byte_again, tested_again}
use Rattle.def_log.proofs.Takes.{came as some_came, some_is}
use Rattle.def_log.proofs.Again.{goes_on as some_goes_on}
use Rattle.def_state.specs.Names.{Numbers, number_of, put_number}
use Rattle.def_state.specs.Outbox.{Held}
use Rattle.def_state.specs.Shelf.{Waiting}
use Rattle.def_state.specs.Image.{many_at, last_at, ended_at, output_at, link_at, message_at, part_at, sender_at, identities, rises_above}
use Rattle.def_state.specs.Names.{Identity}
use Rattle.def_state.specs.ImagePlaces.{Reading, ◌>>=◌, field, any, items, values, counted_values, last_txn, output, link, handlers_of, params_of, message, above, sender}
use Rattle.law_image.proofs.Fields.{came, goes_on, IsTested, field_came, field_is, all_pass, behind, Walks, items_came, items_goes}

abbrev okay : {A : Type 0} → A × List ℕ → Reading A
okay x = Ok x

pub ok_is : {A : Type 0} (x y : A × List ℕ) → okay x ≡ okay y → y ≡ x
ok_is x y e = cc

abbrev some : {A : Type 0} → A → List ℕ → Option (A × List ℕ)
some x rest = Some (x, rest)

-- values --------------------------------------------------------------------------------------

abbrev pub value_step : ℕ → List ℕ → Reading ℕ
value_step so_far rest = field value_at any rest >>= (λ x. Ok (so_far + 1, x.1))

values_walk : Walks value_step value_at (λ n x. true) (λ n x. n + 1)
values_walk = record {
  came = λ n bytes y e.
      let x = came (field value_at any bytes) (λ x. Ok (n + 1, x.1)) y e in
      let t = field_came value_at any bytes x.0 x.1 in (x.0, t.read_is, refl, ok_is (n + 1, x.0.1) y x.2);
  goes = λ n bytes x r t. goes_on (λ x. Ok (n + 1, x.1)) (field value_at any bytes) x (field_is value_at any bytes x r refl);
}

-- so many values are read one after the other
pub many_values : (n : ℕ) (bytes : List ℕ) → many_at value_at n bytes ≡ values_at n bytes
unfolding many_at values_at
many_values zero bytes = refl
many_values (suc n) bytes = by (value_at bytes) (many_values n)
  where
    by : (o : Option (ℤ × List ℕ)) → ((bytes : List ℕ) → many_at value_at n bytes ≡ values_at n bytes) → option_and_then (λ (x : ℤ × List ℕ). option_and_then (λ (xs : List ℤ × List ℕ). some (x.0 ∷ xs.0) xs.1) (many_at value_at n x.1)) o ≡ option_and_then (λ (x : ℤ × List ℕ). option_and_then (λ (xs : List ℤ × List ℕ). some (x.0 ∷ xs.0) xs.1) (values_at n x.1)) o
    by None h = refl
    by (Some x) h = ap (option_and_then (λ (xs : List ℤ × List ℕ). some (x.0 ∷ xs.0) xs.1)) (h x.1)

pub many_length : {A : Type 0} (read : List ℕ → Option (A × List ℕ)) (n : ℕ) (bytes : List ℕ) (xs : List A × List ℕ) → many_at read n bytes ≡ Some xs → length xs.0 ≡ n
unfolding many_at
many_length {A} read zero bytes xs e = let none : List A × List ℕ = ([], bytes) in ap (λ (z : List A × List ℕ). length z.0) (sym (some_is none xs e))
many_length {A} read (suc n) bytes xs e =
    let x = some_came _ (read bytes) xs e in
    let ys = some_came _ (many_at read n x.0.1) xs x.2 in
    let whole : List A × List ℕ = (x.0.0 ∷ ys.0.0, ys.0.1) in
    ap (λ (z : List A × List ℕ). length z.0) (sym (some_is whole xs ys.2)) ∙ ap suc (many_length read n x.0.1 ys.0 ys.1)

pub values_came : (n : ℕ) (bytes : List ℕ) (y : ℕ × List ℕ) → values n bytes ≡ Ok y → (xs : List ℤ × List ℕ) × (values_at n bytes ≡ Some xs) × (y.1 ≡ xs.1)
values_came n bytes y e =
    let w = items_came values_walk n 0 bytes y e in
    (w.0, sym (many_values n bytes) ∙ w.1, ap (λ (z : ℕ × List ℕ). z.1) w.3)

all_true : (n : ℕ) (xs : List ℤ) → all_pass (λ (n : ℕ) (x : ℤ). true) (λ n x. n + 1) n xs ≡ true
all_true n [] = refl
all_true n (x ∷ xs) = all_true (n + 1) xs

pub values_go : (n : ℕ) (bytes : List ℕ) (xs : List ℤ × List ℕ) → values_at n bytes ≡ Some xs → (m : ℕ) × (values n bytes ≡ Ok (m, xs.1))
values_go n bytes xs e = (behind (λ (n : ℕ) (x : ℤ). n + 1) 0 xs.0, items_goes values_walk n 0 bytes xs (many_values n bytes ∙ e) (all_true 0 xs.0))

-- a count that passed a test, and so many values
pub record IsCounted (test : ℕ → Bool) (bytes : List ℕ) (n : ℕ × List ℕ) (xs : List ℤ × List ℕ) : Type 0 where
  pub count_is : number_at w8 bytes ≡ Some n
  pub test_is : test n.0 ≡ true
  pub values_are : values_at n.0 n.1 ≡ Some xs

pub counted_came : (test : ℕ → Bool) (bytes : List ℕ) (y : ℕ × List ℕ) → counted_values test bytes ≡ Ok y → (n : ℕ × List ℕ) × (xs : List ℤ × List ℕ) × IsCounted test bytes n xs × (y.1 ≡ xs.1)
unfolding counted_values
counted_came test bytes y e =
    let n = came (field (number_at w8) test bytes) (λ n. values n.0 n.1) y e in
    let t = field_came (number_at w8) test bytes n.0 n.1 in
    let xs = values_came n.0.0 n.0.1 y n.2 in
    (n.0, xs.0, record { count_is = t.read_is; test_is = t.test_is; values_are = xs.1 }, xs.2)

pub counted_goes : (test : ℕ → Bool) (bytes : List ℕ) (n : ℕ × List ℕ) (xs : List ℤ × List ℕ) → IsCounted test bytes n xs → (m : ℕ) × (counted_values test bytes ≡ Ok (m, xs.1))
unfolding counted_values
counted_goes test bytes n xs h =
    let v = values_go n.0 n.1 xs h.values_are in
    (v.0, goes_on (λ n. values n.0 n.1) (field (number_at w8) test bytes) n (field_is (number_at w8) test bytes n h.count_is h.test_is) ∙ v.1)

pub values_length : (n : ℕ) (bytes : List ℕ) (xs : List ℤ × List ℕ) → values_at n bytes ≡ Some xs → length xs.0 ≡ n
values_length n bytes xs e = many_length value_at n bytes xs (many_values n bytes ∙ e)

-- the values of a message or an output
args_is : (test : ℕ → Bool) (bytes : List ℕ) (n : ℕ × List ℕ) (xs : List ℤ × List ℕ) → IsCounted test bytes n xs → nat_le n.0 VALUES ≡ true → args_at bytes ≡ Some xs
unfolding args_at
args_is test bytes n xs h few =
    some_goes_on _ (tested_at w8 (λ n. nat_le n VALUES) bytes) n (tested_again w8 (λ n. nat_le n VALUES) bytes n.1 n.0 h.count_is few) ∙ h.values_are

args_came : (bytes : List ℕ) (xs : List ℤ × List ℕ) → args_at bytes ≡ Some xs → (n : ℕ × List ℕ) × (number_at w8 bytes ≡ Some n) × (nat_le n.0 VALUES ≡ true) × (values_at n.0 n.1 ≡ Some xs)
unfolding args_at
args_came bytes xs e =
    let n = some_came _ (tested_at w8 (λ n. nat_le n VALUES) bytes) xs e in
    let t = tested_takes w8 (λ n. nat_le n VALUES) bytes n.0.0 n.0.1 n.1 in
    (n.0, t.0, t.1, n.2)

-- outputs -------------------------------------------------------------------------------------

abbrev pub is_next_output : Program → ℕ → ℕ → Waiting → Bool
is_next_output program made last w = (nat_lt last w.output.m && nat_le w.output.m made) && is_an_xcom program w.output.to

abbrev waiting : ℕ → ComId → List ℤ → Waiting
waiting m to xs = record { output = record { m = m; to = to; args = xs }; at = 0 }

pub outputs_walk : (program : Program) (made : ℕ) → Walks (output program made) output_at (is_next_output program made) (λ last w. w.output.m)
unfolding output output_at
outputs_walk program made = record {
  came = λ last bytes y e.
      let m = came (field count_at (λ m. nat_lt last m && nat_le m made) bytes) _ y e in
      let to = came (field com_at (is_an_xcom program) m.0.1) _ y m.2 in
      let xs = came (counted_values (λ n. nat_le n VALUES) to.0.1) _ y to.2 in
      let a = field_came count_at (λ m. nat_lt last m && nat_le m made) bytes m.0 m.1 in
      let b = field_came com_at (is_an_xcom program) m.0.1 to.0 to.1 in
      let d = counted_came (λ n. nat_le n VALUES) to.0.1 xs.0 xs.1 in
      let rest : (m.0.0, xs.0.1) ≡ (m.0.0, d.1.1) = ap (λ (z : List ℕ). pair m.0.0 z) d.3 in (
        (waiting m.0.0 to.0.0 d.1.0, d.1.1),
        some_goes_on _ (count_at bytes) m.0 a.read_is ∙ some_goes_on _ (com_at m.0.1) to.0 b.read_is ∙ some_goes_on _ (args_at to.0.1) d.1 (args_is (λ n. nat_le n VALUES) to.0.1 d.0 d.1 d.2 d.2.test_is),
        and_from (nat_lt last m.0.0 && nat_le m.0.0 made) (is_an_xcom program to.0.0) a.test_is b.test_is,
        ok_is (m.0.0, xs.0.1) y xs.2 ∙ rest,
      );
  goes = λ last bytes w e t.
      let m = some_came _ (count_at bytes) w e in
      let to = some_came _ (com_at m.0.1) w m.2 in
      let xs = some_came _ (args_at to.0.1) w to.2 in
      let n = args_came to.0.1 xs.0 xs.1 in
      let whole : Waiting × List ℕ = (waiting m.0.0 to.0.0 xs.0.0, xs.0.1) in
      let same : whole ≡ w = some_is whole w xs.2 in
      let p = and_parts (nat_lt last m.0.0 && nat_le m.0.0 made) (is_an_xcom program to.0.0) (ap (λ (z : Waiting × List ℕ). is_next_output program made last z.0) same ∙ t) in
      let v = counted_goes (λ n. nat_le n VALUES) to.0.1 n.0 xs.0 (record { count_is = n.1; test_is = n.2; values_are = n.3 }) in
      goes_on _ (field count_at (λ m. nat_lt last m && nat_le m made) bytes) m.0 (field_is count_at (λ m. nat_lt last m && nat_le m made) bytes m.0 m.1 p.0)
      ∙ goes_on _ (field com_at (is_an_xcom program) m.0.1) to.0 (field_is com_at (is_an_xcom program) m.0.1 to.0 to.1 p.1)
      ∙ goes_on _ (counted_values (λ n. nat_le n VALUES) to.0.1) (v.0, xs.0.1) v.1
      ∙ ap (λ (z : Waiting × List ℕ). done z.0.output.m z.1) same;
}
  where
    pair : ℕ → List ℕ → ℕ × List ℕ
    pair n rest = (n, rest)

    done : ℕ → List ℕ → Reading ℕ
    done n rest = Ok (n, rest)

-- links ---------------------------------------------------------------------------------------

abbrev pub is_next_link : Program → ComId → Numbers → ComId × ℕ → Bool
is_next_link program c links x = is_other_pcom program c x.0 && list_all (λ y. nat_lt y.0.0 x.0.0) links

pub links_walk : (program : Program) (c : ComId) → Walks (link program c) link_at (is_next_link program c) (λ links x. links ++ x ∷ [])
unfolding link link_at
links_walk program c = record {
  came = λ links bytes y e.
      let to = came (field com_at (λ to. is_other_pcom program c to && list_all (λ x. nat_lt x.0.0 to.0) links) bytes) _ y e in
      let n = came (field count_at any to.0.1) _ y to.2 in
      let a = field_came com_at (λ to. is_other_pcom program c to && list_all (λ x. nat_lt x.0.0 to.0) links) bytes to.0 to.1 in
      let b = field_came count_at any to.0.1 n.0 n.1 in
      (((to.0.0, n.0.0), n.0.1), some_goes_on _ (com_at bytes) to.0 a.read_is ∙ some_goes_on _ (count_at to.0.1) n.0 b.read_is, a.test_is, ok_is (links ++ (to.0.0, n.0.0) ∷ [], n.0.1) y n.2);
  goes = λ links bytes x e t.
      let to = some_came _ (com_at bytes) x e in
      let n = some_came _ (count_at to.0.1) x to.2 in
      let whole : (ComId × ℕ) × List ℕ = ((to.0.0, n.0.0), n.0.1) in
      let same : whole ≡ x = some_is whole x n.2 in
      let test : is_next_link program c links (to.0.0, n.0.0) ≡ true = ap (λ (z : (ComId × ℕ) × List ℕ). is_next_link program c links z.0) same ∙ t in
      goes_on _ (field com_at (λ to. is_other_pcom program c to && list_all (λ x. nat_lt x.0.0 to.0) links) bytes) to.0 (field_is com_at (λ to. is_other_pcom program c to && list_all (λ x. nat_lt x.0.0 to.0) links) bytes to.0 to.1 test)
      ∙ goes_on _ (field count_at any to.0.1) n.0 (field_is count_at any to.0.1 n.0 n.1 refl)
      ∙ ap (λ (z : (ComId × ℕ) × List ℕ). done (links ++ z.0 ∷ []) z.1) same;
}
  where
    done : Numbers → List ℕ → Reading Numbers
    done ns rest = Ok (ns, rest)

-- held messages ---------------------------------------------------------------------------------

abbrev pub is_content : Program → ComId → ℕ → List ℤ → Bool
is_content program to handler xs = nat_lt handler (length (handlers_of program to)) && (nat_le (length xs) VALUES && (length xs == params_of program to handler))

abbrev pub is_next_message : Program → ComId → ℕ → Numbers → Numbers → Held → Bool
is_next_message program c clock links last h =
    is_other_pcom program c h.msg.to
    && ((nat_lt (number_of 0 last h.msg.to) h.msg.k && nat_le h.msg.k (number_of 0 links h.msg.to)) && (nat_le h.msg.stamp clock && is_content program h.msg.to h.msg.handler h.msg.args))

abbrev held : ComId → ComId → ℕ → ℕ → ℕ → List ℤ → Held
held c to k stamp handler xs = record { msg = record { from = c; to = to; k = k; stamp = stamp; handler = handler; args = xs }; at = 0; put = true; stable = false }

pub messages_walk : (program : Program) (c : ComId) (clock : ℕ) (links : Numbers) → Walks (message program c clock links) (message_at c) (is_next_message program c clock links) (λ last h. put_number h.msg.to h.msg.k last)
unfolding message message_at
messages_walk program c clock links = record {
  came = λ last bytes y e.
      let to = came (field com_at (is_other_pcom program c) bytes) _ y e in
      let k = came (field count_at (λ k. nat_lt (number_of 0 last to.0.0) k && nat_le k (number_of 0 links to.0.0)) to.0.1) _ y to.2 in
      let s = came (field time_at (λ s. nat_le s clock) k.0.1) _ y k.2 in
      let h = came (field (number_at w8) (λ h. nat_lt h (length (handlers_of program to.0.0))) s.0.1) _ y s.2 in
      let n = came (counted_values (λ n. nat_le n VALUES && (n == params_of program to.0.0 h.0.0)) h.0.1) _ y h.2 in
      let a1 = field_came com_at (is_other_pcom program c) bytes to.0 to.1 in
      let a2 = field_came count_at (λ k. nat_lt (number_of 0 last to.0.0) k && nat_le k (number_of 0 links to.0.0)) to.0.1 k.0 k.1 in
      let a3 = field_came time_at (λ s. nat_le s clock) k.0.1 s.0 s.1 in
      let a4 = field_came (number_at w8) (λ h. nat_lt h (length (handlers_of program to.0.0))) s.0.1 h.0 h.1 in
      let d = counted_came (λ n. nat_le n VALUES && (n == params_of program to.0.0 h.0.0)) h.0.1 n.0 n.1 in
      let counts = and_parts (nat_le d.0.0 VALUES) (d.0.0 == params_of program to.0.0 h.0.0) d.2.test_is in
      let len : length d.1.0 ≡ d.0.0 = values_length d.0.0 d.0.1 d.1 d.2.values_are in
      let fits : (nat_le (length d.1.0) VALUES && (length d.1.0 == params_of program to.0.0 h.0.0)) ≡ true = ap (λ (z : ℕ). nat_le z VALUES && (z == params_of program to.0.0 h.0.0)) len ∙ d.2.test_is in
      let rest : (put_number to.0.0 k.0.0 last, n.0.1) ≡ (put_number to.0.0 k.0.0 last, d.1.1) = ap (λ (z : List ℕ). pair (put_number to.0.0 k.0.0 last) z) d.3 in (
        (held c to.0.0 k.0.0 s.0.0 h.0.0 d.1.0, d.1.1),
        some_goes_on _ (com_at bytes) to.0 a1.read_is ∙ some_goes_on _ (count_at to.0.1) k.0 a2.read_is ∙ some_goes_on _ (time_at k.0.1) s.0 a3.read_is ∙ some_goes_on _ (number_at w8 s.0.1) h.0 a4.read_is
            ∙ some_goes_on _ (args_at h.0.1) d.1 (args_is (λ n. nat_le n VALUES && (n == params_of program to.0.0 h.0.0)) h.0.1 d.0 d.1 d.2 counts.0),
        and_from (is_other_pcom program c to.0.0) _ a1.test_is
            (and_from (nat_lt (number_of 0 last to.0.0) k.0.0 && nat_le k.0.0 (number_of 0 links to.0.0)) _ a2.test_is
            (and_from (nat_le s.0.0 clock) _ a3.test_is
            (and_from (nat_lt h.0.0 (length (handlers_of program to.0.0))) _ a4.test_is fits))),
        ok_is (put_number to.0.0 k.0.0 last, n.0.1) y n.2 ∙ rest,
      );
  goes = λ last bytes x e t.
      let to = some_came _ (com_at bytes) x e in
      let k = some_came _ (count_at to.0.1) x to.2 in
      let s = some_came _ (time_at k.0.1) x k.2 in
      let h = some_came _ (number_at w8 s.0.1) x s.2 in
      let xs = some_came _ (args_at h.0.1) x h.2 in
      let n = args_came h.0.1 xs.0 xs.1 in
      let whole : Held × List ℕ = (held c to.0.0 k.0.0 s.0.0 h.0.0 xs.0.0, xs.0.1) in
      let same : whole ≡ x = some_is whole x xs.2 in
      let test : is_next_message program c clock links last whole.0 ≡ true = ap (λ (z : Held × List ℕ). is_next_message program c clock links last z.0) same ∙ t in
      let p1 = and_parts (is_other_pcom program c to.0.0) _ test in
      let p2 = and_parts (nat_lt (number_of 0 last to.0.0) k.0.0 && nat_le k.0.0 (number_of 0 links to.0.0)) _ p1.1 in
      let p3 = and_parts (nat_le s.0.0 clock) _ p2.1 in
      let p4 = and_parts (nat_lt h.0.0 (length (handlers_of program to.0.0))) _ p3.1 in
      let len : length xs.0.0 ≡ n.0.0 = values_length n.0.0 n.0.1 xs.0 n.3 in
      let fits : (nat_le n.0.0 VALUES && (n.0.0 == params_of program to.0.0 h.0.0)) ≡ true = ap (λ (z : ℕ). nat_le z VALUES && (z == params_of program to.0.0 h.0.0)) (sym len) ∙ p4.1 in
      let v = counted_goes (λ n. nat_le n VALUES && (n == params_of program to.0.0 h.0.0)) h.0.1 n.0 xs.0 (record { count_is = n.1; test_is = fits; values_are = n.3 }) in
      goes_on _ (field com_at (is_other_pcom program c) bytes) to.0 (field_is com_at (is_other_pcom program c) bytes to.0 to.1 p1.0)
      ∙ goes_on _ (field count_at (λ k. nat_lt (number_of 0 last to.0.0) k && nat_le k (number_of 0 links to.0.0)) to.0.1) k.0 (field_is count_at (λ k. nat_lt (number_of 0 last to.0.0) k && nat_le k (number_of 0 links to.0.0)) to.0.1 k.0 k.1 p2.0)
      ∙ goes_on _ (field time_at (λ s. nat_le s clock) k.0.1) s.0 (field_is time_at (λ s. nat_le s clock) k.0.1 s.0 s.1 p3.0)
      ∙ goes_on _ (field (number_at w8) (λ h. nat_lt h (length (handlers_of program to.0.0))) s.0.1) h.0 (field_is (number_at w8) (λ h. nat_lt h (length (handlers_of program to.0.0))) s.0.1 h.0 h.1 p4.0)
      ∙ goes_on _ (counted_values (λ n. nat_le n VALUES && (n == params_of program to.0.0 h.0.0)) h.0.1) (v.0, xs.0.1) v.1
      ∙ ap (λ (z : Held × List ℕ). done (put_number z.0.msg.to z.0.msg.k last) z.1) same;
}
  where
    pair : Numbers → List ℕ → Numbers × List ℕ
    pair ns rest = (ns, rest)

    done : Numbers → List ℕ → Reading Numbers
    done ns rest = Ok (ns, rest)

-- senders ---------------------------------------------------------------------------------------

above_walk : Walks above count_at (λ (last k : ℕ). nat_lt last k) (λ last k. k)
above_walk = record {
  came = λ last bytes y e.
      let t = field_came count_at (nat_lt last) bytes y e in (y, t.read_is, t.test_is, refl);
  goes = λ last bytes x r t. field_is count_at (nat_lt last) bytes x r t;
}

rises_is : (n : ℕ) (ks : List ℕ) → all_pass (λ (last k : ℕ). nat_lt last k) (λ last k. k) n ks ≡ rises_above n ks
rises_is n [] = refl
rises_is n (k ∷ ks) = ap (λ b. nat_lt n k && b) (rises_is k ks)

abbrev pub Part : Type 0
Part = ComId × ℕ × List ℕ

-- taken numbers: some up to the bound, or above it
abbrev pub are_numbers : ℕ → List ℕ → Bool
are_numbers w ks = (nat_lt 0 w || nat_lt 0 (length ks)) && rises_above (w + 1) ks

abbrev pub is_next_sender : Program → ComId → List ℕ → Part → Bool
is_next_sender program c senders s = (is_other_pcom program c s.0 && list_all (λ x. nat_lt x s.0.0) senders) && are_numbers s.1 s.2

pub senders_walk : (program : Program) (c : ComId) → Walks (sender program c) part_at (is_next_sender program c) (λ senders s. senders ++ s.0.0 ∷ [])
unfolding sender part_at
senders_walk program c = record {
  came = λ senders bytes y e.
      let from = came (field com_at (λ from. is_other_pcom program c from && list_all (λ s. nat_lt s from.0) senders) bytes) _ y e in
      let w = came (field time_at any from.0.1) _ y from.2 in
      let n = came (field (number_at w32) (λ n. nat_lt 0 w.0.0 || nat_lt 0 n) w.0.1) _ y w.2 in
      let last = came (items above n.0.0 (w.0.0 + 1) n.0.1) _ y n.2 in
      let a1 = field_came com_at (λ from. is_other_pcom program c from && list_all (λ s. nat_lt s from.0) senders) bytes from.0 from.1 in
      let a2 = field_came time_at any from.0.1 w.0 w.1 in
      let a3 = field_came (number_at w32) (λ n. nat_lt 0 w.0.0 || nat_lt 0 n) w.0.1 n.0 n.1 in
      let ks = items_came above_walk n.0.0 (w.0.0 + 1) n.0.1 last.0 last.1 in
      let len : length ks.0.0 ≡ n.0.0 = many_length count_at n.0.0 n.0.1 ks.0 ks.1 in
      let filled : (nat_lt 0 w.0.0 || nat_lt 0 (length ks.0.0)) ≡ true = ap (λ (z : ℕ). nat_lt 0 w.0.0 || nat_lt 0 z) len ∙ a3.test_is in
      let rises : rises_above (w.0.0 + 1) ks.0.0 ≡ true = sym (rises_is (w.0.0 + 1) ks.0.0) ∙ ks.2 in
      let rest : (senders ++ from.0.0.0 ∷ [], last.0.1) ≡ (senders ++ from.0.0.0 ∷ [], ks.0.1) = ap (λ (z : ℕ × List ℕ). pair (senders ++ from.0.0.0 ∷ []) z.1) ks.3 in (
        ((from.0.0, w.0.0, ks.0.0), ks.0.1),
        some_goes_on _ (com_at bytes) from.0 a1.read_is ∙ some_goes_on _ (time_at from.0.1) w.0 a2.read_is ∙ some_goes_on _ (number_at w32 w.0.1) n.0 a3.read_is ∙ some_goes_on _ (many_at count_at n.0.0 n.0.1) ks.0 ks.1,
        and_from (is_other_pcom program c from.0.0 && list_all (λ x. nat_lt x from.0.0.0) senders) _ a1.test_is (and_from (nat_lt 0 w.0.0 || nat_lt 0 (length ks.0.0)) _ filled rises),
        ok_is (senders ++ from.0.0.0 ∷ [], last.0.1) y last.2 ∙ rest,
      );
  goes = λ senders bytes x e t.
      let from = some_came _ (com_at bytes) x e in
      let w = some_came _ (time_at from.0.1) x from.2 in
      let n = some_came _ (number_at w32 w.0.1) x w.2 in
      let ks = some_came _ (many_at count_at n.0.0 n.0.1) x n.2 in
      let whole : Part × List ℕ = ((from.0.0, w.0.0, ks.0.0), ks.0.1) in
      let same : whole ≡ x = some_is whole x ks.2 in
      let test : is_next_sender program c senders whole.0 ≡ true = ap (λ (z : Part × List ℕ). is_next_sender program c senders z.0) same ∙ t in
      let p1 = and_parts (is_other_pcom program c from.0.0 && list_all (λ x. nat_lt x from.0.0.0) senders) _ test in
      let p2 = and_parts (nat_lt 0 w.0.0 || nat_lt 0 (length ks.0.0)) _ p1.1 in
      let len : length ks.0.0 ≡ n.0.0 = many_length count_at n.0.0 n.0.1 ks.0 ks.1 in
      let filled : (nat_lt 0 w.0.0 || nat_lt 0 n.0.0) ≡ true = ap (λ (z : ℕ). nat_lt 0 w.0.0 || nat_lt 0 z) (sym len) ∙ p2.0 in
      let last : ℕ × List ℕ = (behind (λ (last k : ℕ). k) (w.0.0 + 1) ks.0.0, ks.0.1) in
      goes_on _ (field com_at (λ from. is_other_pcom program c from && list_all (λ s. nat_lt s from.0) senders) bytes) from.0 (field_is com_at (λ from. is_other_pcom program c from && list_all (λ s. nat_lt s from.0) senders) bytes from.0 from.1 p1.0)
      ∙ goes_on _ (field time_at any from.0.1) w.0 (field_is time_at any from.0.1 w.0 w.1 refl)
      ∙ goes_on _ (field (number_at w32) (λ n. nat_lt 0 w.0.0 || nat_lt 0 n) w.0.1) n.0 (field_is (number_at w32) (λ n. nat_lt 0 w.0.0 || nat_lt 0 n) w.0.1 n.0 n.1 filled)
      ∙ goes_on _ (items above n.0.0 (w.0.0 + 1) n.0.1) last (items_goes above_walk n.0.0 (w.0.0 + 1) n.0.1 ks.0 ks.1 (rises_is (w.0.0 + 1) ks.0.0 ∙ p2.1))
      ∙ ap (λ (z : Part × List ℕ). done (senders ++ z.0.0.0 ∷ []) z.1) same;
}
  where
    pair : List ℕ → List ℕ → List ℕ × List ℕ
    pair ns rest = (ns, rest)

    done : List ℕ → List ℕ → Reading (List ℕ)
    done ns rest = Ok (ns, rest)

-- the last ended transaction ----------------------------------------------------------------------

abbrev pub is_last : Program → ℕ → Option (ComId × ℕ) → Bool
is_last program begun None = true
is_last program begun (Some e) = is_a_tcom program e.0 && nat_le e.1 begun

byte_is : (b : ℕ) (bytes : List ℕ) (x : ℕ × List ℕ) → number_at w8 (b ∷ bytes) ≡ Some x → (b, bytes) ≡ x
byte_is b bytes x e = some_is (b, bytes) x (sym (byte_again b bytes) ∙ e)

pub last_came : (program : Program) (begun : ℕ) (bytes : List ℕ) (y : ℕ × List ℕ) → last_txn program begun bytes ≡ Ok y → (o : Option (ComId × ℕ) × List ℕ) × (last_at bytes ≡ Some o) × (is_last program begun o.0 ≡ true) × (y.1 ≡ o.1)
unfolding last_txn last_at ended_at
last_came program begun bytes y e =
    let there = came (field (number_at w8) (λ n. nat_le n 1) bytes) _ y e in
    let t = field_came (number_at w8) (λ n. nat_le n 1) bytes there.0 there.1 in
    by bytes there.0 t.read_is t.test_is there.2
  where
    ended : (bytes : List ℕ) → (field com_at (is_a_tcom program) bytes >>= (λ t. field count_at (λ n. nat_le n begun) t.1)) ≡ Ok y → (o : Option (ComId × ℕ) × List ℕ) × (ended_at bytes ≡ Some o) × (is_last program begun o.0 ≡ true) × (y.1 ≡ o.1)
    ended bytes e =
        let t = came (field com_at (is_a_tcom program) bytes) (λ t. field count_at (λ n. nat_le n begun) t.1) y e in
        let a = field_came com_at (is_a_tcom program) bytes t.0 t.1 in
        let b = field_came count_at (λ n. nat_le n begun) t.0.1 y t.2 in
        ((Some (t.0.0, y.0), y.1), some_goes_on _ (com_at bytes) t.0 a.read_is ∙ some_goes_on _ (count_at t.0.1) y b.read_is, and_from (is_a_tcom program t.0.0) (nat_le y.0 begun) a.test_is b.test_is, refl)

    by : (bytes : List ℕ) (x : ℕ × List ℕ) → number_at w8 bytes ≡ Some x → nat_le x.0 1 ≡ true → cond (x.0 == 0) (Ok (0, x.1)) (field com_at (is_a_tcom program) x.1 >>= (λ t. field count_at (λ n. nat_le n begun) t.1)) ≡ okay y → (o : Option (ComId × ℕ) × List ℕ) × (last_at bytes ≡ Some o) × (is_last program begun o.0 ≡ true) × (y.1 ≡ o.1)
    by [] x r t e = absurd cc
    by (zero ∷ bytes) x r t e =
        let same = byte_is 0 bytes x r in
        let here : okay (0, bytes) ≡ okay y = subst (λ (z : ℕ × List ℕ). cond (z.0 == 0) (okay (0, z.1)) (field com_at (is_a_tcom program) z.1 >>= (λ t. field count_at (λ n. nat_le n begun) t.1)) ≡ okay y) (sym same) e in
        ((None, bytes), refl, refl, ap (λ (z : ℕ × List ℕ). z.1) (ok_is (0, bytes) y here))
    by (suc zero ∷ bytes) x r t e =
        let same = byte_is 1 bytes x r in
        ended bytes (subst (λ (z : ℕ × List ℕ). cond (z.0 == 0) (okay (0, z.1)) (field com_at (is_a_tcom program) z.1 >>= (λ t. field count_at (λ n. nat_le n begun) t.1)) ≡ okay y) (sym same) e)
    by (suc (suc n) ∷ bytes) x r t e =
        let same = byte_is (suc (suc n)) bytes x r in
        let test : nat_le (suc (suc n)) 1 ≡ true = ap (λ (z : ℕ × List ℕ). nat_le z.0 1) same ∙ t in
        absurd (let low = leb-true (suc (suc n)) 1 test in omega arith)

pub last_goes : (program : Program) (begun : ℕ) (bytes : List ℕ) (o : Option (ComId × ℕ) × List ℕ) → last_at bytes ≡ Some o → is_last program begun o.0 ≡ true → (n : ℕ) × (last_txn program begun bytes ≡ Ok (n, o.1))
unfolding last_txn last_at ended_at
last_goes program begun [] o e t = absurd cc
last_goes program begun (zero ∷ bytes) o e t =
    let none : Option (ComId × ℕ) × List ℕ = (None, bytes) in (
      0,
      goes_on _ (field (number_at w8) (λ n. nat_le n 1) (0 ∷ bytes)) (0, bytes) (field_is (number_at w8) (λ n. nat_le n 1) (0 ∷ bytes) (0, bytes) (byte_again 0 bytes) refl)
          ∙ ap (λ (z : Option (ComId × ℕ) × List ℕ). okay (0, z.1)) (some_is none o e),
    )
last_goes program begun (suc zero ∷ bytes) o e t =
    let tcom = some_came _ (com_at bytes) o e in
    let n = some_came _ (count_at tcom.0.1) o tcom.2 in
    let whole : Option (ComId × ℕ) × List ℕ = (Some (tcom.0.0, n.0.0), n.0.1) in
    let same : whole ≡ o = some_is whole o n.2 in
    let test : is_last program begun whole.0 ≡ true = ap (λ (z : Option (ComId × ℕ) × List ℕ). is_last program begun z.0) same ∙ t in
    let p = and_parts (is_a_tcom program tcom.0.0) (nat_le n.0.0 begun) test in (
      n.0.0,
      goes_on _ (field (number_at w8) (λ n. nat_le n 1) (1 ∷ bytes)) (1, bytes) (field_is (number_at w8) (λ n. nat_le n 1) (1 ∷ bytes) (1, bytes) (byte_again 1 bytes) refl)
          ∙ goes_on (λ t. field count_at (λ n. nat_le n begun) t.1) (field com_at (is_a_tcom program) bytes) tcom.0 (field_is com_at (is_a_tcom program) bytes tcom.0 tcom.1 p.0)
          ∙ field_is count_at (λ n. nat_le n begun) tcom.0.1 n.0 n.1 p.1
          ∙ ap (λ (z : Option (ComId × ℕ) × List ℕ). okay (n.0.0, z.1)) same,
    )
last_goes program begun (suc (suc n) ∷ bytes) o e t = absurd cc
