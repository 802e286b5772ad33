-- Annotations and types are read as far as they go: of what is spelled at the front no less is
-- read, whatever stands behind it.
use Rattle.std.proofs.Common.{◌≡◌, refl, sym, ◌∙◌, ap, subst, ℕ, zero, suc, ◌≤◌, arith}
use Rattle.std.proofs.Common.{List, [], ◌∷◌, ◌++◌, length, append_assoc, Some, None, inl, inr}
use Rattle.java_ast.specs.declared.annotation.AnnTree.{AnnTree, out-AnnTree}
use Rattle.java_ast.specs.declared.annotation.ElemArg.{ElemArg}
use Rattle.java_ast.specs.declared.annotation.ElemTree.TheViews.{roll-AnnTree}
use Rattle.java_grammar.specs.declared.part.Part.TheVariants as part
use Rattle.java_grammar.specs.declared.part.Pair.TheVariants as pair
use Rattle.java_grammar.specs.Marks.{Mark, Line}
use Rattle.java_grammar.specs.Words.{Row, Word}
use Rattle.java_grammar.specs.Reading.{IsFront}
use Rattle.java_grammar.specs.Expressions.{Dot, QName, InParentheses}
use Rattle.java_grammar.specs.Annotations.{AnnLayer, Elements, ElemWithin, AnnSpells}
use Rattle.java_grammar.specs.declared.sign.Sign.TheVariants as sign
use Rattle.type_expr_parser.specs.Reading.{Read, found, ◌>>=◌, step, prepended, many, front_line}
use Rattle.type_expr_parser.specs.Reading.{comes, sign_at}
use Rattle.type_expr_parser.specs.Names.{further_word_at, qname_at}
use Rattle.type_expr_parser.specs.Annotations.{Values, elements_over, any_elements_over}
use Rattle.type_expr_parser.specs.Annotations.{annotation_over, value_at, annotation_at}
use Rattle.type_expr_parser.proofs.Lines.{regroup, both_lengths, bind_is, to_row, many_takes, Rows}
use Rattle.type_expr_parser.proofs.TokenLaws.{sign_again, word_again, on_any_line}
use Rattle.type_expr_parser.proofs.NameLaws.{Further, further_takes, further_again, further_rows}
use Rattle.type_expr_parser.proofs.NameLaws.{further_missing, qname_again}
use Rattle.type_expr_parser.proofs.ExprAgain.{comes_other}
use Rattle.type_expr_parser.proofs.AnnTakes.{Sound, Inside, elements_takes, value_takes}
use Rattle.type_expr_parser.proofs.ElementAgain.{Complete, elements_again}
use Rattle.type_expr_parser.proofs.AnnAgain.{values_read}

-- the reading gives something, and leaves no more than this
pub record Longer {A : Type 0} (read : Read A) (left : List Mark) : Type 0 where
  pub item : A
  pub rest : List Mark
  pub more : List Mark
  pub is : read ≡ found item rest
  pub within : left ≡ more ++ rest

-- as many as come, at least one, leave no more than this
pub record LongerRow {A : Type 0} (read : List A × List Mark) (left : List Mark) : Type 0 where
  pub first : A
  pub others : List A
  pub more : List Mark
  pub some : read.0 ≡ first ∷ others
  pub within : left ≡ more ++ read.1

pub further : {left rest : List Mark} (last more others : List Mark) → left ≡ more ++ rest
    → rest ≡ others ++ last → left ≡ (more ++ others) ++ last
further last more others e f =
    e ∙ ap (λ l. more ++ l) f ∙ sym (append_assoc more others last)

-- a row of items of which the last may go on
pub many_longer : {A : Type 0} {item : List Mark → Read A} {Spells : A → Line}
    {Follows : List Mark → Type 0} {most : ℕ} (law : Rows item Spells Follows most)
    → ((n : ℕ) (text : List Mark) → (front : List Mark) × (text ≡ front ++ (many item n text).1))
    → ((x : A) (front left : List Mark) → Spells x front → length front ≤ most
    → Longer (item (front ++ left)) left)
    → (n : ℕ) (x : A) (xs : List A) (front left : List Mark)
    → Row Spells (x ∷ xs) front → length front ≤ n → n ≤ most
    → LongerRow (many item n (front ++ left)) left
unfolding many
many_longer law sound last zero x xs front left s few fits =
    absurd (let a = law.some x s.front s.before in let b = both_lengths s in omega arith)
many_longer {item} {most = most} law sound last (suc n) x [] front left s few fits =
    let b = both_lengths s in
    let short : length s.front ≤ most = omega arith in
    let l = last x s.front left s.before short in
    let behind = sound n l.rest in
    let whole : front ++ left ≡ s.front ++ left =
    regroup s left ∙ ap (λ r. s.front ++ (r ++ left)) s.after in
    let read : many item (suc n) (front ++ left) ≡ prepended (l.item ∷ []) (many item n l.rest) =
    ap (many item (suc n)) whole
    ∙ ap (λ r. step r ([], s.front ++ left) (λ y rest. prepended (y ∷ [])
    (many item n rest))) l.is in
    subst (λ r. LongerRow r left) (sym read) (record {
      first = l.item;
      others = (many item n l.rest).0;
      more = l.more ++ behind.0;
      some = refl;
      within = further _ l.more behind.0 l.within behind.1;
    })
many_longer {item} {Follows = Follows} {most = most} law sound last (suc n) x
    (z ∷ zs) front left s few fits =
    let a = law.some x s.front s.before in
    let b = both_lengths s in
    let short : length s.front ≤ most = omega arith in
    let fewer : length s.rest ≤ n = omega arith in
    let less : n ≤ most = omega arith in
    let t = s.after in
    let follows : Follows (s.rest ++ left) =
    subst Follows (sym (regroup t left)) (law.next z t.front (t.rest ++ left) t.before) in
    let one = law.again x s.front (s.rest ++ left) s.before short follows in
    let l = many_longer law sound last n z zs s.rest left t fewer less in
    let read : many item (suc n) (front ++ left)
    ≡ prepended (x ∷ []) (many item n (s.rest ++ left)) =
    ap (many item (suc n)) (regroup s left)
    ∙ ap (λ r. step r ([], s.front ++ (s.rest ++ left))
    (λ y rest. prepended (y ∷ []) (many item n rest))) one in
    subst (λ r. LongerRow r left) (sym read) (record {
      first = x;
      others = (many item n (s.rest ++ left)).0;
      more = l.more;
      some = refl;
      within = l.within;
    })

-- ---- annotations

further_sound : (n : ℕ) (text : List Mark) → IsFront (Row Further
    (many further_word_at n text).0) text
    (many further_word_at n text).1
further_sound n text = many_takes further_word_at Further further_takes n text

word_longer : (n : ℕ) (name : List ℕ) (front left : List Mark) → Further name front
    → length front ≤ n → Longer (further_word_at (front ++ left)) left
word_longer n name front left x few = record {
  item = name;
  rest = left;
  more = [];
  is = further_again name front left x;
  within = refl;
}

qname_by : (n : ℕ) (name : List ℕ) (more : List (List ℕ) × List Mark) (text left : List Mark)
    → qname_at n text ≡ Some (prepended (name ∷ []) more)
    → (front : List Mark) → left ≡ front ++ more.1
    → Longer (qname_at n text) left
qname_by n name more text left e front h = record {
  item = name ∷ more.0;
  rest = more.1;
  more = front;
  is = e;
  within = h;
}

qname_longer : (n : ℕ) (words : List (List ℕ)) (text left : List Mark) → QName words text
    → length text ≤ suc n → Longer (qname_at n (text ++ left)) left
unfolding qname_at
qname_longer n [] text left x few = absurd x
qname_longer n (word ∷ words) text left x few =
    let y = to_row Dot Word word words text x in
    let a = ap length y.before.whole in
    let b = both_lengths y in
    let fewer : length y.rest ≤ n = omega arith in
    let r = many further_word_at n (y.rest ++ left) in
    let e : qname_at n (text ++ left) ≡ Some (prepended (word ∷ []) r) =
    ap (λ l. qname_at n l) (regroup y left)
    ∙ bind_is (λ first. Some (prepended (first.0 ∷ []) (many further_word_at n first.1)))
    (word_again word y.front (y.rest ++ left) y.before) refl in
    by words y.rest y.after fewer e
  where
    by : (words : List (List ℕ)) (rest : List Mark) → Row Further words rest → length rest ≤ n
        → qname_at n (text ++ left)
        ≡ Some (prepended (word ∷ []) (many further_word_at n (rest ++ left)))
        → Longer (qname_at n (text ++ left)) left
    by [] rest y few e =
        let s = further_sound n (rest ++ left) in
        qname_by n word (many further_word_at n (rest ++ left)) (text ++ left) left e s.front
        (sym (ap (λ l. l ++ left) y) ∙ s.whole)
    by (w ∷ words) rest y few e =
        let same : n ≤ n = omega arith in
        let l = many_longer (further_rows n)
        (λ k t. let s = further_sound k t in (s.front, s.whole))
        (word_longer n) n w words rest left y
        few same in
        qname_by n word (many further_word_at n (rest ++ left))
        (text ++ left) left e l.more l.within

any_elements_longer : (n : ℕ) (value : Values) (m : ℕ) → Sound m value → (left : List Mark)
    → Longer (any_elements_over value n left) left
unfolding any_elements_over
any_elements_longer n value m sound left = by (elements_over value n left) refl
  where
    by : (r : Read (List ElemArg)) → elements_over value n left ≡ r
        → Longer (step r (found [] left) (λ args rest. found args rest)) left
    by None e = record { item = []; rest = left; more = []; is = refl; within = refl }
    by (Some x) e =
        let s = elements_takes m n value sound left x.0 x.1 e in
        record { item = x.0; rest = x.1; more = s.front; is = refl; within = s.whole }

group_read : (n : ℕ) (value : Values) → Complete n value → (m : ℕ) (args : List ElemArg)
    (text left : List Mark) → InParentheses (Inside m args) text → length text ≤ suc n
    → any_elements_over value n (text ++ left) ≡ found args left
unfolding any_elements_over
group_read n value law m args text left g few =
    ap (λ r. step r (found [] (text ++ left)) (λ args rest. found args rest))
    (elements_again n value law m args text left g few)

annotation_is : (value : Values) (n : ℕ) (text behind mid left : List Mark)
    (names : List (List ℕ)) (args : List ElemArg)
    → sign_at sign.At text ≡ found tt behind → qname_at n behind ≡ found names mid
    → any_elements_over value n mid ≡ found args left
    → annotation_over value n text
    ≡ found (roll-AnnTree (record { line = front_line text; names = names; args = args })) left
unfolding annotation_over
annotation_is value n text behind mid left names args at named given =
    bind_is (λ at. qname_at n at.1 >>= λ ns. any_elements_over value n ns.1 >>= λ xs.
    found (roll-AnnTree (record { line = front_line text; names = ns.0; args = xs.0 })) xs.1) at
    (bind_is (λ ns. any_elements_over value n ns.1 >>= λ xs.
    found (roll-AnnTree (record { line = front_line text; names = ns.0; args = xs.0 })) xs.1) named
    (bind_is (λ xs. found (roll-AnnTree (record {
      line = front_line text;
      names = names;
      args = xs.0;
    })) xs.1) given refl))

annotation_by : (n m : ℕ) (value : Values) → Sound m value → (text behind left : List Mark)
    → Longer (qname_at n behind) left → sign_at sign.At text ≡ found tt behind
    → Longer (annotation_over value n text) left
annotation_by n m value sound text behind left names at =
    let l = any_elements_longer n value m sound names.rest in
    record {
      item = roll-AnnTree (record { line = front_line text; names = names.item; args = l.item });
      rest = l.rest;
      more = names.more ++ l.more;
      is = annotation_is value n text behind names.rest l.rest names.item l.item at names.is l.is;
      within = further _ names.more l.more names.within l.within;
    }

-- of an annotation at the front no less is read
pub annotation_longer : (n : ℕ) (a : AnnTree) (text left : List Mark) → AnnSpells a text
    → length text ≤ suc n → Longer (annotation_at n (text ++ left)) left
unfolding annotation_at
annotation_longer n a text left x few = by x.1.after.after
  where
    layer : AnnLayer
    layer = out-AnnTree a

    by : Elements (ElemWithin x.0) layer.args x.1.after.rest
        → Longer (annotation_over (value_at n) n (text ++ left)) left
    by (inl e) =
        let at = on_any_line layer.line part.At x.1.front x.1.before in
        let y = x.1.after in
        let l = both_lengths x.1 in
        let k = both_lengths y in
        let fits : length y.front ≤ suc n = omega arith in
        let behind = y.front ++ left in
        let whole : text ++ left ≡ x.1.front ++ behind =
        regroup x.1 left ∙ ap (λ l. x.1.front ++ l)
        (regroup y left ∙ ap (λ l. y.front ++ (l ++ left)) e.1) in
        subst (λ t. Longer (annotation_over (value_at n) n t) left) (sym whole)
        (annotation_by n n (value_at n) (value_takes n) (x.1.front ++ behind) behind left
        (qname_longer n layer.names y.front left y.before fits)
        (sign_again sign.At x.1.front behind at))
    by (inr g) =
        let at = on_any_line layer.line part.At x.1.front x.1.before in
        let y = x.1.after in
        let l = both_lengths x.1 in
        let k = both_lengths y in
        let fits : length y.front ≤ suc n = omega arith in
        let fewer : length y.rest ≤ suc n = omega arith in
        let behind = y.front ++ (y.rest ++ left) in
        let whole : text ++ left ≡ x.1.front ++ behind =
        regroup x.1 left ∙ ap (λ l. x.1.front ++ l) (regroup y left) in
        let word : further_word_at (y.rest ++ left) ≡ None =
        further_missing (y.rest ++ left)
        (ap (comes sign.Dot) (regroup g left)
        ∙ comes_other sign.Dot (part.Opening pair.Parentheses) g.front (g.rest ++ left) g.before
        refl) in
        let names : Longer (qname_at n behind) (y.rest ++ left) = record {
          item = layer.names;
          rest = y.rest ++ left;
          more = [];
          is = qname_again n layer.names y.front (y.rest ++ left) y.before fits word;
          within = refl;
        } in
        let args : any_elements_over (value_at n) n (y.rest ++ left) ≡ found layer.args left =
        group_read n (value_at n) (values_read n) x.0 layer.args y.rest left g fewer in
        subst (λ t. Longer (annotation_over (value_at n) n t) left) (sym whole) (record {
          item = roll-AnnTree (record {
            line = front_line (x.1.front ++ behind);
            names = layer.names;
            args = layer.args;
          });
          rest = left;
          more = [];
          is = annotation_is (value_at n) n (x.1.front ++ behind) behind (y.rest ++ left) left
              layer.names layer.args (sign_again sign.At x.1.front behind at) names.is args;
          within = refl;
        })
