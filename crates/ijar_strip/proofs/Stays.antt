-- The step of the loop that marks what stays.
use Rattle.std.proofs.Common.{◌≡◌, ℕ, ◌+◌, ◌<◌, arith, Bool, true, false, ◌||◌, List, [], ◌∷◌}
use Rattle.std.proofs.Common.{◌++◌, length, map, take, get_or, ap, ◌∙◌, sym, subst}
use Rattle.std.specs.Prelude.{◌↔◌}
use Rattle.std.proofs.lemmas.List.{map_more, map_push, get_or-map, length-map}
use Rattle.class_views.specs.Staying.{stays_in}
use Rattle.reachability.specs.Reached.{IsReached}
use Rattle.ijar_strip.specs.declared.links.Link.{Link}
use Rattle.ijar_strip.specs.Links.{Linked, link_seen, begins, leads_to, first_places, row_of}
use Rattle.ijar_strip.specs.Links.{AreValues}
use Rattle.ijar_strip.proofs.Reaching.{stays_at}

pub stay_more : (links : List Link) (graph : List (List ℕ)) (begun : List ℕ) (marks : List Bool)
    → AreValues (row_of (map link_seen links)) [] (length links) graph
    → begun ≡ first_places (map link_seen links)
    → ((n : ℕ) → n < length graph → (get_or marks n false ≡ true) ↔ IsReached graph begun n)
    → (i : ℕ) (x : Link) → i < length links → x ≡ get_or links i x
    → (b : Bool) → b ≡ (x.begins || get_or marks i false)
    → (before : List Bool) → before
    ≡ map (stays_in begins leads_to (map link_seen links)) (map link_seen (take i links))
    → before ++ b ∷ [] ≡ map (stays_in begins leads_to (map link_seen links))
    (map link_seen (take (i + 1) links))
stay_more links graph begun marks rows first exact i x inside at b is before done =
    let all : List Linked = map link_seen links in
    let stays : Linked → Bool = stays_in begins leads_to all in
    let long : length all ≡ length links = length-map links link_seen in
    let level : AreValues (row_of all) [] (length all) graph =
    subst (λ n. AreValues (row_of all) [] n graph) (sym long) rows in
    let item : get_or all i (link_seen x) ≡ link_seen x =
    get_or-map link_seen links i x (link_seen x) inside ∙ ap link_seen (sym at) in
    let tells : stays (link_seen x) ≡ (x.begins || get_or marks i false) =
    ap stays (sym item) ∙ (stays_at all graph begun marks level first exact i (link_seen x)
    (omega arith)
    ∙ ap (λ (link : Linked). link.begun || get_or marks i false) item) in
    let more : map link_seen (take (i + 1) links) ≡ map link_seen (take i links) ++ link_seen x
    ∷ [] =
    map_more link_seen links i x inside
    ∙ ap (λ (y : Link). map link_seen (take i links) ++ link_seen y ∷ []) (sym at) in
    let moved : map stays (map link_seen (take (i + 1) links))
    ≡ map stays (map link_seen (take i links)) ++ stays (link_seen x) ∷ [] =
    ap (map stays) more ∙ map_push stays (map link_seen (take i links)) (link_seen x) in
    ap (λ list. list ++ b ∷ []) done
    ∙ (ap (λ c. map stays (map link_seen (take i links)) ++ c ∷ []) (is ∙ sym tells)
    ∙ sym moved)
