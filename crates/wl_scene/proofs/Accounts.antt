-- What an end reports of its state is what the words of its history say, and they say one thing.
use Rattle.std.proofs.Common.{◌≡◌, ℕ, zero, suc, ◌+◌, ◌<◌, List, [], ◌∷◌, ◌++◌, length, drop, get_or, refl, sym, ap, ◌∙◌, append_assoc, arith}
use Rattle.wl_elem.specs.declared.lane.Direction.TheVariants.{Down, Up}
use Rattle.wl_elem.specs.declared.lane.EndId.{EndId}
use Rattle.wl_frame.specs.Sealing.{Sealing}
use Rattle.wl_number.specs.Bookings.{booking_count}
use Rattle.wl_map.specs.Ends.{agreed_sets}
use Rattle.wl_history.specs.declared.setup.Setup.{Setup}
use Rattle.wl_history.specs.declared.start.EndStart.{EndStart}
use Rattle.wl_history.specs.declared.start.Start.{Start}
use Rattle.wl_history.specs.declared.step.Step.{Step}
use Rattle.wl_history.specs.EndState.{EndState, IsEnd, lane_at}
use Rattle.wl_history.specs.Ends.{start_of}
use Rattle.wl_history.specs.Stands.{EndStands, octets_all, positions_of}
use Rattle.wl_history.specs.Words.{Airing, airings, airings_on, queued, receiving}
use Rattle.wl_end.specs.Parts.{frame_count}
use Rattle.wl_scene.specs.declared.totals.Totals.{Totals}
use Rattle.wl_scene.specs.Account.{per_lane, sum_below, IsTotals, Reports}

-- ---- lanes in order

per_lane-same : {A : Type 0} (f g : ℕ → A) → ((l : ℕ) → l < 9 → f l ≡ g l) → per_lane f ≡ per_lane g
per_lane-same f g same =
    cc (same 0 (omega arith), same 1 (omega arith), same 2 (omega arith), same 3 (omega arith), same 4 (omega arith), same 5 (omega arith), same 6 (omega arith), same 7 (omega arith), same 8 (omega arith))

per_lane-drop : {A : Type 0} (f : ℕ → A) (k : ℕ) → k < 9 → drop k (per_lane f) ≡ f k ∷ drop (k + 1) (per_lane f)
per_lane-drop f zero lt = refl
per_lane-drop f (suc zero) lt = refl
per_lane-drop f (suc (suc zero)) lt = refl
per_lane-drop f (suc (suc (suc zero))) lt = refl
per_lane-drop f (suc (suc (suc (suc zero)))) lt = refl
per_lane-drop f (suc (suc (suc (suc (suc zero))))) lt = refl
per_lane-drop f (suc (suc (suc (suc (suc (suc zero)))))) lt = refl
per_lane-drop f (suc (suc (suc (suc (suc (suc (suc zero))))))) lt = refl
per_lane-drop f (suc (suc (suc (suc (suc (suc (suc (suc zero)))))))) lt = refl
per_lane-drop f (suc (suc (suc (suc (suc (suc (suc (suc (suc k))))))))) lt = absurd (omega arith)

-- one lane more
pub lane_more : {A : Type 0} (f : ℕ → A) (k : ℕ) (lanes new : List A) → k < 9 → lanes ++ drop k (per_lane f) ≡ per_lane f → new ≡ lanes ++ f k ∷ [] → new ++ drop (k + 1) (per_lane f) ≡ per_lane f
lane_more {A = A} f k lanes new within so_far added =
    ap (λ (x : List A). x ++ drop (k + 1) (per_lane f)) added ∙ append_assoc lanes (f k ∷ []) (drop (k + 1) (per_lane f)) ∙ ap (λ (x : List A). lanes ++ x) (sym (per_lane-drop f k within)) ∙ so_far

-- ---- frames

sum_below-same : (n : ℕ) (f g : ℕ → ℕ) → ((k : ℕ) → k < n → f k ≡ g k) → sum_below n f ≡ sum_below n g
sum_below-same zero f g same = refl
sum_below-same (suc n) f g same =
    omega (arith, same 0 (omega arith), sum_below-same n (λ (k : ℕ). f (suc k)) (λ (k : ℕ). g (suc k)) (λ k lt. same (suc k) (omega arith)))

frame_count-sum : (frames : List (List (List ℕ))) → frame_count frames ≡ sum_below (length frames) (λ k. length (get_or frames k []))
frame_count-sum [] = refl
frame_count-sum (on_link ∷ frames) = ap (λ (n : ℕ). length on_link + n) (frame_count-sum frames)

octets_all-length : (text : Sealing) (start : EndStart) (e : EndId) (list : List Airing) → length (octets_all text start e list) ≡ length list
octets_all-length text start e [] = refl
octets_all-length text start e (airing ∷ list) = ap suc (octets_all-length text start e list)

aired_is : (text : Sealing) (start : Start) (e : EndId) (s : EndState) (steps : List Step) → IsEnd s → EndStands text start e s steps → frame_count s.frames ≡ sum_below 15 (λ link. length (airings_on link (airings start e steps)))
aired_is text start e s steps is_end stands =
    frame_count-sum s.frames ∙ ap (λ (n : ℕ). sum_below n (λ k. length (get_or s.frames k []))) is_end.fifteen
    ∙ sum_below-same 15 (λ k. length (get_or s.frames k [])) (λ k. length (airings_on k (airings start e steps)))
    (λ k lt. ap length (stands.frames k lt) ∙ octets_all-length text (start_of start e) e (airings_on k (airings start e steps)))

-- ---- the report

pub reports : (text : Sealing) (start : Start) (e : EndId) (s : EndState) (steps : List Step) (t : Totals) → IsEnd s → EndStands text start e s steps → IsTotals s t → Reports start e steps t
reports text start e s steps t is_end stands is = record {
  aired = is.aired ∙ aired_is text start e s steps is_end stands;
  booked = is.booked ∙ ap booking_count stands.booked_are;
  emlsr = is.emlsr;
  key = is.key ∙ stands.key_is;
  links = is.links ∙ ap (λ (x : Setup). x.links) stands.setup_is;
  dl = is.dl ∙ ap (λ (x : Setup). agreed_sets Down x.maps) stands.setup_is;
  ul = is.ul ∙ ap (λ (x : Setup). agreed_sets Up x.maps) stands.setup_is;
  newest = is.newest ∙ ap (λ (x : Setup). x.keys) stands.setup_is;
  queued = is.queued ∙ per_lane-same (λ l. length (lane_at s l).queue) (λ l. length (queued start e l steps)) (λ l lt. ap length (stands.lanes l lt).queue_is);
  released = is.released ∙ per_lane-same (λ l. (lane_at s l).released) (λ l. positions_of (receiving start e l steps).released) (λ l lt. (stands.lanes l lt).released);
}

-- ---- one report

same_totals : (t u : Totals) → t.aired ≡ u.aired → t.booked ≡ u.booked → t.emlsr ≡ u.emlsr → t.key ≡ u.key → t.links ≡ u.links → t.dl ≡ u.dl → t.ul ≡ u.ul → t.newest ≡ u.newest → t.queued ≡ u.queued → t.released ≡ u.released → t ≡ u
same_totals t u aired booked emlsr key links dl ul newest queued released = λ i. record {
  aired = aired i;
  booked = booked i;
  emlsr = emlsr i;
  key = key i;
  links = links i;
  dl = dl i;
  ul = ul i;
  newest = newest i;
  queued = queued i;
  released = released i;
}

pub once : (start : Start) (e : EndId) (steps : List Step) (t u : Totals) → Reports start e steps t → Reports start e steps u → t ≡ u
once start e steps t u a b =
    same_totals t u (a.aired ∙ sym b.aired) (a.booked ∙ sym b.booked) (a.emlsr ∙ sym b.emlsr) (a.key ∙ sym b.key) (a.links ∙ sym b.links) (a.dl ∙ sym b.dl) (a.ul ∙ sym b.ul)
    (a.newest ∙ sym b.newest) (a.queued ∙ sym b.queued) (a.released ∙ sym b.released)
