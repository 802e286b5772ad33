-- What is asked, gone over one by one.
use Rattle.std.proofs.Common.{◌≡◌, ℕ, ◌+◌, ◌<◌, List, [], ◌∷◌, ◌++◌, length, take, get_or}
use Rattle.std.proofs.Common.{refl, sym, ap, ◌∙◌, append-nil, add-one}
use Rattle.std.specs.Prelude.{Option, Some, None, option_map}
use Rattle.std.specs.List.{filter_map}
use Rattle.std.proofs.Math.Seq.{take-suc}
use Rattle.std.proofs.lemmas.List.{map-append}
use Rattle.std.proofs.lemmas.List.Elements.{filter_map-append}
use Rattle.questions.specs.declared.ask.AskedValue.{AskedValue}
use Rattle.questions.specs.declared.kind.Kind.{Kind}
use Rattle.option_words.specs.declared.options.Given.{Given as ReadGiven}
use Rattle.questions.specs.Asked.{all_asked}
use Rattle.questions.specs.Asking.{asked_value}
use Rattle.questions.specs.Kinds.{kind_of}
use Rattle.option_words.specs.Options.{Given}
use Rattle.option_words.specs.Seen.{given_seen, all_given}

-- a list of at most one
abbrev listed : Option (Kind × List ℕ) → List (Kind × List ℕ)
listed None = []
listed (Some x) = x ∷ []

one : (o : Given) → filter_map asked_value (o ∷ []) ≡ listed (asked_value o)
one o = by (asked_value o) refl
  where
    by : (x : Option (Kind × List ℕ)) → asked_value o ≡ x
        → filter_map asked_value (o ∷ []) ≡ listed (asked_value o)
    by None e = rw e refl
    by (Some x) e = rw e refl

module _ (given : List ReadGiven) (i : ℕ) (d : ReadGiven) (found : List AskedValue)
    (below : i < length given)
    (so_far : all_asked found ≡ filter_map asked_value (all_given (take i given))) where
  more : all_asked found ++ listed (asked_value (given_seen (get_or given i d)))
      ≡ filter_map asked_value (all_given (take (i + 1) given))
  more =
      let o = get_or given i d in
      let cut : take (i + 1) given ≡ take i given ++ o ∷ [] =
      rw add-one (take-suc given i d below) in
      ap (λ t. t ++ listed (asked_value (given_seen o))) so_far
      ∙ ap (λ t. filter_map asked_value (all_given (take i given)) ++ t) (sym (one (given_seen o)))
      ∙ sym (filter_map-append asked_value (all_given (take i given)) (given_seen o ∷ []))
      ∙ ap (filter_map asked_value) (sym (map-append given_seen (take i given) (o ∷ [])))
      ∙ ap (λ os. filter_map asked_value (all_given os)) (sym cut)

  -- the next option asks this
  pub asked_more : (pushed : List AskedValue) (asked : AskedValue) → pushed ≡ found ++ asked ∷ []
      → kind_of (get_or given i d).option.now ≡ Some asked.kind
      → asked.value.now ≡ (get_or given i d).value.now
      → all_asked pushed ≡ filter_map asked_value (all_given (take (i + 1) given))
  asked_more pushed asked put kind value =
      let o = get_or given i d in
      let is : asked_value (given_seen o) ≡ Some (asked.kind, asked.value.now) =
      ap (option_map (λ k. (k, o.value.now))) kind
      ∙ ap (λ v. Some (asked.kind, v)) (sym value) in
      ap all_asked put
      ∙ map-append (λ (a : AskedValue). (a.kind, a.value.now)) found (asked ∷ [])
      ∙ ap (λ x. all_asked found ++ listed x) (sym is)
      ∙ more

  -- the next option asks nothing
  pub asked_nothing : kind_of (get_or given i d).option.now ≡ None
      → all_asked found ≡ filter_map asked_value (all_given (take (i + 1) given))
  asked_nothing none =
      let o = get_or given i d in
      let is : asked_value (given_seen o) ≡ None =
      ap (option_map (λ k. (k, o.value.now))) none in
      sym (append-nil (all_asked found)) ∙ ap (λ x. all_asked found ++ listed x) (sym is) ∙ more
