-- What lies at the pointer is lent to `feed` with the piece, and comes back with what was taken of it.
use Rattle.navbridge_c.proofs.Steps.{◌≡◌, ℕ, [], ◌∷◌, ◌++◌, take, refl, w64, proved, full_share, id⊢, Lft, GName, ftrue, flft, fres, flent, named, vptr, WpFn, fact, tables, ‵, raw, ◌⊛◌, some, later, prop, ◌$◌, ◌∵◌, !, qed, done, move, keep, drop, use1, use2, use3, split, join, fsplit, pick, await, rewrite, regoal, suffices, frame, group, enter, of_opd, addr, stop, no_more, and_then, returns, alloc_all, pass_all, free_all, look_at, get, through, sets, lands_as, Body, lft_new, lft_end, u8, usize, yes, Is, shows, lends_ref, ref_back, mem, part_at, uint_Lawful, Ptr, RawPtr, block_ptr, lies_at, in_a_block, rawptr_vals, rawptr_Tells, MutRef, plain, shr_slice_of, ShrSlice, shr_slice_vals, shr_slice_Tells, nothing, heard, peeks, calls_at, lasts, triple_of, Stays, walk_of, says, stay_dropped, Goes-dropped, ends_at, framed, DeframerState, R}
use Rattle.c_calls.specs.Deframers.{Feeds, fed}
use Rattle.navbridge_c.specs.contracts.deframer.nb_deframer_feed as f
use Rattle.navbridge_c.proofs.deframer.nb_deframer_feed.Statement.{statement}
use Rattle.navbridge_c.proofs.deframer.nb_deframer_feed.Code as code
use Rattle.c_calls.specs.contracts.deframer.feed as g
use Rattle.c_calls.proofs.deframer.feed.Met.{met}

abbrev stayed : Stays f.ended.signature.params f.ended.kept
stayed = (stay_dropped _ yes, (stay_dropped _ yes, tt))

pub nb_deframer_feed_spec : {M : Type 1} → statement M
nb_deframer_feed_spec 𝓤 𝓛 𝓜 𝓡 wired =
    let c = f.clauses 𝓛 𝓜.mem 𝓡.returns in let W = walk_of 𝓛 f.ended stayed c in let 𝓣 = tables 𝓤 𝓛.H 𝓜 𝓡 𝓡.env in
    proved 𝓛 f.ended stayed c 𝓜 𝓡
    (Goes-dropped 𝓛 1 (plain (λ _. RawPtr)) yes (λ κs x w. refl), (Goes-dropped 𝓛 1 (shr_slice_of (0 ∷ []) tt (plain (λ _. u8))) yes (λ κs x w. refl), tt))
    f.Key.name code.function (code.unfolded 𝓤 𝓛.H 𝓜 𝓡 wired)
    (λ κs. (rawptr_vals, (shr_slice_vals, tt))) (λ κs. (rawptr_Tells, (shr_slice_Tells (named 0) κs.0 u8, tt))) (λ κs qs bounds a n are.
    let piece = a.1.0 in
    let y : Ptr → W.Ghost = λ p. ((κs, qs, bounds, (p, (piece, tt)), (rawptr_vals p, (shr_slice_vals piece, tt))), n) in
    qed 𝓛 (((‵ (flft κs.0 qs.0) ⊛ ‵ ftrue) ⊛ ‵ (RawPtr.own_val a.0 (rawptr_vals a.0)) ⊛ ‵ ((ShrSlice (named 0) κs.0 u8).own_val piece (shr_slice_vals piece)) ⊛ ‵ ftrue) ∷
    ‵ (lies_at R full_share a.0 n) ∷ []) ∵ split ! $ split ! $ move ! (2 ∷ []) $ split ! $ drop ! $ split ! $ keep ! (4 ∷ 0 ∷ 2 ∷ []) $
    in_a_block ! a.0 (λ p. lies_at R full_share p n) (id⊢ 𝓤 _) (λ b o e.
    regoal ! (λ p. prop (WpFn 𝓤 𝓛.H 𝓣.C 𝓣.Λ code.function (rawptr_vals p ++ shr_slice_vals piece) (W.post (y p)))) e refl $
    enter ! _ _ _ _ _ $ alloc_all ! (λ l. pass_all ! refl ((tt, tt), ((tt, (tt, (record { fits = are.1.0.0.1.0 }, tt))), tt)) $
    -- [the deframer; the piece; its token; the locals]
    sets ! (of_opd ! (get ! refl)) refl (tt, tt) $
    sets ! (addr ! (through ! refl (stop !))) refl (tt, tt) $
    lft_new ! tt (λ α. let κ : Lft = α ∷ [] in move ! (1 ∷ []) $
    use1 𝓛 (later (some (λ (γ : GName). ‵ ((MutRef (named 0) κ R).own_val (record { ref_ptr = (b, o); ghost_name = γ; now = n }) (vptr b o ∷ [])) ⊛ ‵ (flent κ (Body (mem R) b o γ)))))
    (lends_ref 𝓛 R (named 0) κ n b o) $ await ! tt $ pick ! (λ γ. split ! $
    -- [the loan; what the lender keeps; the token of α; the piece; its token]
    let G = triple_of 𝓛 g.signature (g.spec 𝓛 𝓜.mem 𝓡.returns) in
    let z : G.Ghost = (((κ, (κs.0, tt)), (full_share, (qs.0, tt)), tt, (record { ref_ptr = (b, o); ghost_name = γ; now = n }, (piece, tt)), (vptr b o ∷ [], (shr_slice_vals piece, tt))), tt) in
    nothing ! $ move ! (4 ∷ 0 ∷ []) $ join ! $ move ! (1 ∷ 0 ∷ []) $ join ! $ nothing ! $ move ! (4 ∷ 0 ∷ []) $ join ! $ move ! (3 ∷ 0 ∷ []) $ join ! $ join ! $
    nothing ! $ move ! (1 ∷ 0 ∷ []) $ use2 𝓛 (raw (G.pre z)) (id⊢ 𝓤 _) $
    calls_at ! (framed 𝓤 𝓛.H 𝓜 (tables 𝓤 𝓛.H 𝓜 𝓡 𝓡.env)) G (met 𝓤 𝓛 𝓜 𝓡 (code.calls-c_calls::deframer::feed 𝓡.env wired)) z
    (and_then ! (get ! refl) (and_then ! (get ! refl) (no_more !))) (λ v.
    use1 𝓛 (later (some (λ (r : ℕ). ((‵ (flft κ full_share) ⊛ ‵ (flft κs.0 qs.0) ⊛ ‵ ftrue) ⊛ ‵ (usize.own_val r (v ∷ []))) ⊛
    some (λ (ws : DeframerState × (Unit {0} × Unit {0})). ‵ (lasts g.ended z.0.0 z.0.3 ws) ⊛ (raw (fact 𝓤 (ws.0 ≡ fed n (take r piece.now))) ⊛ raw (fact 𝓤 (Feeds n piece.now r))))))) (id⊢ 𝓤 _) $
    await ! tt $ pick ! (λ r. split ! $ split ! $ split ! $ lft_end ! tt $ move ! (3 ∷ []) $ pick ! (λ ws. split ! $ move ! (1 ∷ []) $ split ! $
    heard ! _ (λ is. heard ! _ (λ feeds. fsplit ! $ fsplit ! $
    rewrite ! 0 (λ (m : DeframerState). ‵ (fres γ (R.coded.code m))) is refl $
    -- [its last value; its borrow; nothing; α is over; the piece's token; the result; what the lender keeps]
    move ! (3 ∷ 6 ∷ 0 ∷ []) $ use3 𝓛 (later (‵ (part_at R full_share (fed n (take r piece.now)) b o))) (ref_back 𝓛 R κ γ (fed n (take r piece.now)) b o) $ await ! tt $
    move ! (4 ∷ []) $ peeks ! usize (Is usize) (shows 𝓛 usize) r (v ∷ []) (λ shown. lands_as ! refl refl ((uint_Lawful 𝓛 w64).typed r _ shown).0 $
    returns ! (look_at ! 0 refl) $ free_all ! refl $ keep ! (4 ∷ 0 ∷ 1 ∷ []) $
    suffices ! _ (ends_at 𝓛 f.ended stayed c (y (block_ptr b o)) v r (tt, (tt, tt)) (tt, (tt, tt))) $
    nothing ! $ nothing ! $ join ! $ nothing ! $ join ! $ move ! (1 ∷ 0 ∷ []) $ group ! 3 $ frame ! $ says ! feeds $ done !)))))))))))
