-- `trailer::take_trailer` meets its contract: the first check that refuses is the answer, and else the layout that the trailer tells.
use Rattle.std.proofs.Common.{◌≡◌, sym, ap, ◌∙◌, true, List, [], ◌∷◌, ℕ, ◌-◌, ◌≤◌, arith, length, lt-ltb, le-ltb}
use Rattle.ground.specs.Bytes.{part}
use Rattle.shelf.specs.Network.{within_limits, most_calls}
use Rattle.shelf.specs.NetworkLaws.{made_sized, refused_sized}
use Rattle.calls.specs.declared.Verdict.{Verdict}
use Rattle.calls.specs.Verdict.{in_turn}
use Rattle.calls.specs.VerdictLaws.{test_stops, test_goes_on, test_passes}
use Rattle.calls.specs.RefusalLaws.{passed_on}
use Rattle.calls.specs.Table.{bad_sizes, too_many_calls}
use Rattle.trailer.specs.File.{short_trailer, trailer_length}
use Rattle.trailer.proofs.FileLaws.{trailer_most}
use Rattle.trailer.specs.declared.Kinds.{Kinds}
use Rattle.trailer.specs.Trailer.{has_trailer, twelve_in, told_kind, told_count, told_settings_back, told_calls_back, kind_in, trailer_place, told_net, no_trailer, distances_told, bad_distances, trailer_verdict}
use Rattle.trailer.proofs.TrailerLaws.{Ended, ended_is, Distances, distances_are, settings_held, refused_apart, whole_apart, lacking}
use Rattle.trailer.proofs.take_trailer.Goals as goal
use Rattle.trailer.proofs.take_trailer.Goals.{Else-not-has_trailer, In_ok-net, After-trailer_length, After-number_at-count, Else-count-gt-MOST_CALLS, After-are_stated}

-- The checks from 1, 3 and 15 on. What they tell is the trailer's verdict, past 14, past 1, past 3.
abbrev From15 : List ℕ → List Verdict
From15 file = bad_distances file ∷ []

abbrev From3 : List ℕ → List Verdict
From3 file = too_many_calls (told_count (twelve_in file)) ∷ From15 file

abbrev From1 : List ℕ → List Verdict
From1 file = bad_sizes (told_net file) ∷ From3 file

module _ (kinds : Kinds) (file : List ℕ) (v : Verdict) where
  past_14 : has_trailer kinds file ≡ true → v ≡ in_turn (From1 file) → v ≡ trailer_verdict kinds file
  unfolding trailer_verdict no_trailer
  past_14 e = test_goes_on 14 0 _ _ (rw e)

  past_1 : has_trailer kinds file ≡ true → within_limits (told_net file) ≡ true → v ≡ in_turn (From3 file) → v ≡ trailer_verdict kinds file
  unfolding bad_sizes
  past_1 e l f = past_14 e (test_goes_on 1 0 _ _ (rw l) f)

  past_3 : has_trailer kinds file ≡ true → within_limits (told_net file) ≡ true → told_count (twelve_in file) ≤ most_calls
      → v ≡ in_turn (From15 file) → v ≡ trailer_verdict kinds file
  unfolding too_many_calls
  past_3 e l few f = past_1 e l (test_goes_on 3 0 _ _ (le-ltb _ _ few) f)

has : (c : Else-not-has_trailer) → has_trailer c.args.kinds c.args.file.now ≡ true
has c = sym c.has_trailer.ensures ∙ c.if-not-has_trailer.false

long : (c : Else-not-has_trailer) → (12 ≤ length c.args.file.now) × (trailer_length (kind_in c.args.file.now) ≤ length c.args.file.now)
unfolding short_trailer
long c =
    let ended : Ended c.args.kinds c.args.file.now = (ended_is _ _).0 (rw (has c) tt) in
    (omega (arith, ended.long, (trailer_most (kind_in c.args.file.now)).0), ended.long)

-- the network is the one told, within its limits
made : (c : In_ok-net) → (within_limits (told_net c.args.file.now) ≡ true) × (c.in_ok-net.net ≡ told_net c.args.file.now)
made c = made_sized _ _ (sym c.in_ok-net.ensures.ok_part ∙ c.network_in.ensures)

-- the kind, and where the trailer starts
size : (c : After-trailer_length) → c.trailer_length.result ≡ trailer_length (kind_in c.args.file.now)
unfolding kind_in told_kind twelve_in short_trailer part
size c = c.trailer_length.ensures ∙ ap trailer_length c.byte_at-kind.ensures.0

start : (c : After-trailer_length) → length c.args.file.now - c.trailer_length.result ≡ trailer_place c.args.file.now
unfolding trailer_place
start c = ap (λ (k : ℕ). length c.args.file.now - k) (size c)

count : (c : After-number_at-count) → c.number_at-count.result ≡ told_count (twelve_in c.args.file.now)
unfolding told_count twelve_in short_trailer part
count c = c.number_at-count.ensures.0

few : (c : Else-count-gt-MOST_CALLS) → told_count (twelve_in c.args.file.now) ≤ most_calls
unfolding told_count twelve_in short_trailer part most_calls
few c = rw c.number_at-count.ensures.0 at c.if-count-gt-MOST_CALLS.false

-- what was read of the distances
settings_back : (c : After-are_stated) → c.number_at-settings_back.result ≡ told_settings_back (twelve_in c.args.file.now)
unfolding told_settings_back twelve_in short_trailer part
settings_back c = c.number_at-settings_back.ensures.0

calls_back : (c : After-are_stated) → c.number_at-calls_back.result ≡ told_calls_back (twelve_in c.args.file.now)
unfolding told_calls_back twelve_in short_trailer part
calls_back c = c.number_at-calls_back.ensures.0

kind : (c : After-are_stated) → c.byte_at-kind.result ≡ kind_in c.args.file.now
unfolding kind_in told_kind twelve_in short_trailer part
kind c = c.byte_at-kind.ensures.0

counted : (c : After-are_stated) → c.number_at-count.result ≡ told_count (twelve_in c.args.file.now)
unfolding told_count twelve_in short_trailer part
counted c = c.number_at-count.ensures.0

begins : (c : After-are_stated) → length c.args.file.now - c.trailer_length.result ≡ trailer_place c.args.file.now
unfolding trailer_place kind_in told_kind twelve_in short_trailer part
begins c = ap (λ (k : ℕ). length c.args.file.now - k) (c.trailer_length.ensures ∙ ap trailer_length c.byte_at-kind.ensures.0)

judged : (c : After-are_stated) → c.are_stated.result ≡ distances_told c.args.file.now
unfolding distances_told
judged c =
    let a = kind c in
    let b = counted c in
    let d = settings_back c in
    let e = calls_back c in
    let f = begins c in
    cc

stated : (file : List ℕ) → distances_told file ≡ true → Distances (kind_in file) (told_count (twelve_in file)) (told_settings_back (twelve_in file))
    (told_calls_back (twelve_in file)) (trailer_place file)
unfolding distances_told
stated file e = (distances_are _ _ _ _ _).0 (rw e tt)

pub returns-then-not-has_trailer : goal.returns-then-not-has_trailer
unfolding trailer_verdict no_trailer
returns-then-not-has_trailer c = refused_apart _ _ 13 (test_stops 13 0 _ (rw (sym c.has_trailer.ensures ∙ c.if-not-has_trailer.true)))

pub network_in-requires : goal.network_in-requires
unfolding short_trailer
network_in-requires c = (long (goal.at.network_in-requires c).Else-not-has_trailer)

pub returns-in_err-net : goal.returns-in_err-net
unfolding bad_sizes
returns-in_err-net c =
    let lacks = lacking _ _ _ c.in_err-net.ensures.value in
    rw (passed_on _ c.from_residual.ensures.1, lacks.1) (refused_apart _ _ 0 (past_14 _ _ _ (has (goal.at.returns-in_err-net c).Else-not-has_trailer) (test_stops 0 0 _ (rw (refused_sized _ (sym lacks.0 ∙ c.network_in.ensures))))))

pub overflow_sub-twelve_at : goal.overflow_sub-twelve_at
overflow_sub-twelve_at c = (long (goal.at.overflow_sub-twelve_at c).Else-not-has_trailer).0

pub byte_at-kind-requires : goal.byte_at-kind-requires
byte_at-kind-requires c = omega (arith, (long (goal.at.byte_at-kind-requires c).Else-not-has_trailer).0)

pub overflow_sub-trailer_at : goal.overflow_sub-trailer_at
overflow_sub-trailer_at c =
    let here = goal.at.overflow_sub-trailer_at c in
    omega (arith, size here.After-trailer_length, (long here.Else-not-has_trailer).1)

pub number_at-count-requires : goal.number_at-count-requires
number_at-count-requires c = omega (arith, (long (goal.at.number_at-count-requires c).Else-not-has_trailer).0)

pub returns-then-count-gt-MOST_CALLS : goal.returns-then-count-gt-MOST_CALLS
unfolding too_many_calls most_calls
returns-then-count-gt-MOST_CALLS c =
    let here = goal.at.returns-then-count-gt-MOST_CALLS c in
    let many = rw (count here.After-number_at-count) at c.if-count-gt-MOST_CALLS.true in
    refused_apart _ _ 2 (past_1 _ _ _ (has here.Else-not-has_trailer) (made here.In_ok-net).0 (test_stops 2 0 _ (lt-ltb _ _ many)))

pub number_at-settings_back-requires : goal.number_at-settings_back-requires
number_at-settings_back-requires c = omega (arith, (long (goal.at.number_at-settings_back-requires c).Else-not-has_trailer).0)

pub number_at-calls_back-requires : goal.number_at-calls_back-requires
number_at-calls_back-requires c = omega (arith, (long (goal.at.number_at-calls_back-requires c).Else-not-has_trailer).0)

pub returns-then-not-are_stated : goal.returns-then-not-are_stated
unfolding bad_distances
returns-then-not-are_stated c =
    let here = goal.at.returns-then-not-are_stated c in
    refused_apart _ _ 14 (past_3 _ _ _ (has here.Else-not-has_trailer) (made here.In_ok-net).0 (few here.Else-count-gt-MOST_CALLS) (test_stops 14 0 _ (rw (sym (judged here.After-are_stated) ∙ c.if-not-are_stated.true))))

pub overflow_sub-result : goal.overflow_sub-result
overflow_sub-result c =
    let here = goal.at.overflow_sub-result c in
    omega (arith, (stated _ (sym (judged here.After-are_stated) ∙ c.if-not-are_stated.false)).held, calls_back here.After-are_stated, start here.After-trailer_length)

pub overflow_sub-result-2 : goal.overflow_sub-result-2
overflow_sub-result-2 c =
    let here = goal.at.overflow_sub-result-2 c in
    omega (arith, (stated _ (sym (judged here.After-are_stated) ∙ c.if-not-are_stated.false)).held, settings_held (stated _ (sym (judged here.After-are_stated) ∙ c.if-not-are_stated.false)), settings_back here.After-are_stated, start here.After-trailer_length)

pub returns : goal.returns
unfolding bad_distances
returns c =
    let here = goal.at.returns c in
    let past = past_3 _ _ _ (has here.Else-not-has_trailer) (made here.In_ok-net).0 (few here.Else-count-gt-MOST_CALLS) (test_passes 15 0 (rw (sym (judged here.After-are_stated) ∙ c.if-not-are_stated.false))) in
    whole_apart _ _ _ _ _ _ _ _ past (made here.In_ok-net).1 (kind here.After-are_stated) (counted here.After-are_stated) (settings_back here.After-are_stated) (calls_back here.After-are_stated) (begins here.After-are_stated)
