-- What lies at the pointer is lent to `take`, which is handed the room, and comes back as it is left.
use Rattle.navbridge_c.proofs.Steps.{◌≡◌, ℕ, List, [], ◌∷◌, ◌++◌, refl, w64, proved, full_share, id⊢, Lft, GName, ftrue, flft, fres, flent, named, vptr, WpFn, fact, tables, ‵, raw, ◌⊛◌, some, later, prop, ◌$◌, ◌∵◌, !, qed, done, move, keep, drop, use1, use2, use3, split, join, fsplit, fjoin, feq_l, pick, await, rewrite, regoal, suffices, frame, group, enter, of_opd, addr, from, fld, hop, stop, no_more, and_then, returns, agg, whole, sub, alloc_all, pass_all, free_all, look_at, look_in_at, get, get_in, through, sets, lands_as, Body, lft_new, lft_end, u8, usize, yes, Is, shows, lends_ref, ref_back, mem, part_at, uint_Lawful, Ptr, RawPtr, block_ptr, lies_at, in_a_block, rawptr_vals, rawptr_Tells, MutRef, plain, MutSlice, mut_slice_vals, mut_slice_Tells, nothing, heard, peeks, calls_at, lasts, triple_of, Stays, walk_of, says, stay_dropped, Goes-dropped, gave_slice, Goes-gave_slice, ends_at, framed, PushState, P}
use Rattle.std.specs.Prelude.{length}
use Rattle.c_calls.specs.Pushes.{RetainsFew, Takes, taken_more}
use Rattle.navbridge_c.specs.contracts.push.nb_push_take as f
use Rattle.navbridge_c.proofs.push.nb_push_take.Statement.{statement}
use Rattle.navbridge_c.proofs.push.nb_push_take.Code as code
use Rattle.c_calls.specs.contracts.push.take as g
use Rattle.c_calls.proofs.push.take.Met.{met}

abbrev stayed : Stays f.ended.signature.params f.ended.kept
stayed = (stay_dropped _ yes, (gave_slice (0 ∷ []) tt (plain (λ _. u8)), tt))

pub nb_push_take_spec : {M : Type 1} → statement M
nb_push_take_spec 𝓤 𝓛 𝓜 𝓡 wired =
    let c = f.clauses 𝓛 𝓜.mem 𝓡.returns in let W = walk_of 𝓛 f.ended stayed c in let 𝓣 = tables 𝓤 𝓛.H 𝓜 𝓡 𝓡.env in
    proved 𝓛 f.ended stayed c 𝓜 𝓡
    (Goes-dropped 𝓛 1 (plain (λ _. RawPtr)) yes (λ κs x w. refl), (Goes-gave_slice 𝓛 1 0 tt (plain (λ _. u8)), tt))
    f.Key.name code.function (code.unfolded 𝓤 𝓛.H 𝓜 𝓡 wired)
    (λ κs. (rawptr_vals, (mut_slice_vals, tt))) (λ κs. (rawptr_Tells, (mut_slice_Tells (named 0) κs.0 u8, tt))) (λ κs qs bounds a n are.
    let room = a.1.0 in
    let y : Ptr → W.Ghost = λ p. ((κs, qs, bounds, (p, (room, tt)), (rawptr_vals p, (mut_slice_vals room, tt))), n) in
    qed 𝓛 (((‵ (flft κs.0 qs.0) ⊛ ‵ ftrue) ⊛ ‵ (RawPtr.own_val a.0 (rawptr_vals a.0)) ⊛ ‵ ((MutSlice (named 0) κs.0 u8).own_val room (mut_slice_vals room)) ⊛ ‵ ftrue) ∷
    ‵ (lies_at P full_share a.0 n) ∷ []) ∵ split ! $ split ! $ move ! (2 ∷ []) $ split ! $ drop ! $ split ! $ keep ! (4 ∷ 0 ∷ 2 ∷ []) $
    in_a_block ! a.0 (λ p. lies_at P full_share p n) (id⊢ 𝓤 _) (λ b o e.
    regoal ! (λ p. prop (WpFn 𝓤 𝓛.H 𝓣.C 𝓣.Λ code.function (rawptr_vals p ++ mut_slice_vals room) (W.post (y p)))) e refl $
    let fits = are.1.0.0.1.0 in
    enter ! _ _ _ _ _ $ alloc_all ! (λ l. pass_all ! refl ((tt, tt), ((tt, (tt, (record { fits = fits }, tt))), tt)) $
    -- [the conversion; the room; its token; the locals]
    sets ! (of_opd ! (get ! refl)) refl (tt, tt) $
    sets ! (addr ! (through ! refl (stop !))) refl (tt, tt) $
    sets ! (addr ! (from ! (fld ! refl (hop ! (look_in_at ! 2 (sub ! 0 refl (whole !))) (stop !))))) refl (tt, tt) $
    sets ! (agg ! (and_then ! (get ! refl) (and_then ! (get_in ! (fld ! refl (stop !)) (sub ! 1 refl (whole !))) (no_more !)))) refl (tt, (tt, (record { fits = fits }, tt))) $
    lft_new ! tt (λ α. let κ : Lft = α ∷ [] in move ! (1 ∷ []) $
    use1 𝓛 (later (some (λ (γ : GName). ‵ ((MutRef (named 0) κ P).own_val (record { ref_ptr = (b, o); ghost_name = γ; now = n }) (vptr b o ∷ [])) ⊛ ‵ (flent κ (Body (mem P) b o γ)))))
    (lends_ref 𝓛 P (named 0) κ n b o) $ await ! tt $ pick ! (λ γ. split ! $
    -- [the loan; what the lender keeps; the token of α; the room; its token]
    let G = triple_of 𝓛 g.signature (g.spec 𝓛 𝓜.mem 𝓡.returns) in
    let z : G.Ghost = (((κ, (κs.0, tt)), (full_share, (qs.0, tt)), tt, (record { ref_ptr = (b, o); ghost_name = γ; now = n }, (room, tt)), (vptr b o ∷ [], (mut_slice_vals room, tt))), tt) in
    nothing ! $ move ! (4 ∷ 0 ∷ []) $ join ! $ move ! (1 ∷ 0 ∷ []) $ join ! $ nothing ! $ move ! (4 ∷ 0 ∷ []) $ join ! $ move ! (3 ∷ 0 ∷ []) $ join ! $ join ! $
    nothing ! $ move ! (1 ∷ 0 ∷ []) $ use2 𝓛 (raw (G.pre z)) (id⊢ 𝓤 _) $
    calls_at ! (framed 𝓤 𝓛.H 𝓜 (tables 𝓤 𝓛.H 𝓜 𝓡 𝓡.env)) G (met 𝓤 𝓛 𝓜 𝓡 (code.calls-c_calls::push::take 𝓡.env wired)) z
    (and_then ! (get ! refl) (and_then ! (get ! refl) (no_more !))) (λ v.
    use1 𝓛 (later (some (λ (r : ℕ). ((‵ (flft κ full_share) ⊛ ‵ (flft κs.0 qs.0) ⊛ ‵ ftrue) ⊛ ‵ (usize.own_val r (v ∷ []))) ⊛
    some (λ (ws : PushState × (List ℕ × Unit {0})). ‵ (lasts g.ended z.0.0 z.0.3 ws) ⊛ (raw (fact 𝓤 (Takes n.output n.taken room.now ws.1.0 r)) ⊛ (raw (fact 𝓤 (ws.0 ≡ taken_more n r)) ⊛ raw (fact 𝓤 (RetainsFew (length ws.0.output) ws.0.taken ws.0.released)))))))) (id⊢ 𝓤 _) $
    await ! tt $ pick ! (λ r. split ! $ split ! $ split ! $ lft_end ! tt $ move ! (3 ∷ []) $ pick ! (λ ws. split ! $ move ! (1 ∷ []) $ split ! $
    heard ! _ (λ gives. split ! $ heard ! _ (λ is. heard ! _ (λ few. fsplit ! $ fsplit ! $
    rewrite ! 0 (λ (m : PushState). ‵ (fres γ (P.coded.code m))) is refl $
    -- [its last value; its borrow; what is left of the room; α is over; the room's token; the result; what the lender keeps]
    move ! (3 ∷ 6 ∷ 0 ∷ []) $ use3 𝓛 (later (‵ (part_at P full_share (taken_more n r) b o))) (ref_back 𝓛 P κ γ (taken_more n r) b o) $ await ! tt $
    move ! (4 ∷ []) $ peeks ! usize (Is usize) (shows 𝓛 usize) r (v ∷ []) (λ shown. lands_as ! refl refl ((uint_Lawful 𝓛 w64).typed r _ shown).0 $
    returns ! (look_at ! 0 refl) $ free_all ! refl $ keep ! (3 ∷ 4 ∷ 0 ∷ 1 ∷ []) $
    fsplit ! $ fsplit ! $ fsplit ! $ move ! (1 ∷ []) $ feq_l ! (λ same.
    -- [what the room holds; its borrow; nothing; its token; the result; the conversion]
    suffices ! _ (ends_at 𝓛 f.ended stayed c (y (block_ptr b o)) v r (tt, (ws.1.0, tt)) (tt, (same, tt))) $
    fjoin ! $ join ! $ nothing ! $ join ! $ move ! (1 ∷ 0 ∷ []) $ group ! 3 $ frame ! $ says ! gives $ done !)))))))))))))
