-- Made by tests/written/root_list.py. `upper` answers the list's entry: in each arm by looking it up, and past them because no entry is left. Assumes nothing.
use Rattle.root_list.proofs.Rule.{past_end}
use Rattle.root_list.specs.Guesses.{guesses}
use Rattle.root_guess.proofs.Keys.{at_key, past-keys}
use Rattle.root_guess.proofs.upper.Goals as goal

pub returns-in-512 : goal.returns-in-512
returns-in-512 c = at_key guesses _ 512 c.in-512.is

pub returns-in-513 : goal.returns-in-513
returns-in-513 c = at_key guesses _ 513 c.in-513.is

pub returns-in-514 : goal.returns-in-514
returns-in-514 c = at_key guesses _ 514 c.in-514.is

pub returns-in-515 : goal.returns-in-515
returns-in-515 c = at_key guesses _ 515 c.in-515.is

pub returns-in-516 : goal.returns-in-516
returns-in-516 c = at_key guesses _ 516 c.in-516.is

pub returns-in-517 : goal.returns-in-517
returns-in-517 c = at_key guesses _ 517 c.in-517.is

pub returns-in-518 : goal.returns-in-518
returns-in-518 c = at_key guesses _ 518 c.in-518.is

pub returns-in-519 : goal.returns-in-519
returns-in-519 c = at_key guesses _ 519 c.in-519.is

pub returns-in-520 : goal.returns-in-520
returns-in-520 c = at_key guesses _ 520 c.in-520.is

pub returns-in-521 : goal.returns-in-521
returns-in-521 c = at_key guesses _ 521 c.in-521.is

pub returns-in-522 : goal.returns-in-522
returns-in-522 c = at_key guesses _ 522 c.in-522.is

pub returns-in-523 : goal.returns-in-523
returns-in-523 c = at_key guesses _ 523 c.in-523.is

pub returns-in-524 : goal.returns-in-524
returns-in-524 c = at_key guesses _ 524 c.in-524.is

pub returns-in-525 : goal.returns-in-525
returns-in-525 c = at_key guesses _ 525 c.in-525.is

pub returns-in-526 : goal.returns-in-526
returns-in-526 c = at_key guesses _ 526 c.in-526.is

pub returns-in-527 : goal.returns-in-527
returns-in-527 c = at_key guesses _ 527 c.in-527.is

pub returns-in-528 : goal.returns-in-528
returns-in-528 c = at_key guesses _ 528 c.in-528.is

pub returns-in-529 : goal.returns-in-529
returns-in-529 c = at_key guesses _ 529 c.in-529.is

pub returns-in-530 : goal.returns-in-530
returns-in-530 c = at_key guesses _ 530 c.in-530.is

pub returns-in-531 : goal.returns-in-531
returns-in-531 c = at_key guesses _ 531 c.in-531.is

pub returns-in-532 : goal.returns-in-532
returns-in-532 c = at_key guesses _ 532 c.in-532.is

pub returns-in-533 : goal.returns-in-533
returns-in-533 c = at_key guesses _ 533 c.in-533.is

pub returns-in-534 : goal.returns-in-534
returns-in-534 c = at_key guesses _ 534 c.in-534.is

pub returns-in-535 : goal.returns-in-535
returns-in-535 c = at_key guesses _ 535 c.in-535.is

pub returns-in-536 : goal.returns-in-536
returns-in-536 c = at_key guesses _ 536 c.in-536.is

pub returns-in-537 : goal.returns-in-537
returns-in-537 c = at_key guesses _ 537 c.in-537.is

pub returns-in-538 : goal.returns-in-538
returns-in-538 c = at_key guesses _ 538 c.in-538.is

pub returns-in-539 : goal.returns-in-539
returns-in-539 c = at_key guesses _ 539 c.in-539.is

pub returns-in-540 : goal.returns-in-540
returns-in-540 c = at_key guesses _ 540 c.in-540.is

pub returns-in-541 : goal.returns-in-541
returns-in-541 c = at_key guesses _ 541 c.in-541.is

pub returns-in-542 : goal.returns-in-542
returns-in-542 c = at_key guesses _ 542 c.in-542.is

pub returns-in-543 : goal.returns-in-543
returns-in-543 c = at_key guesses _ 543 c.in-543.is

pub returns-in-544 : goal.returns-in-544
returns-in-544 c = at_key guesses _ 544 c.in-544.is

pub returns-in-545 : goal.returns-in-545
returns-in-545 c = at_key guesses _ 545 c.in-545.is

pub returns-in-546 : goal.returns-in-546
returns-in-546 c = at_key guesses _ 546 c.in-546.is

pub returns-in-547 : goal.returns-in-547
returns-in-547 c = at_key guesses _ 547 c.in-547.is

pub returns-in-548 : goal.returns-in-548
returns-in-548 c = at_key guesses _ 548 c.in-548.is

pub returns-in-549 : goal.returns-in-549
returns-in-549 c = at_key guesses _ 549 c.in-549.is

pub returns-in-550 : goal.returns-in-550
returns-in-550 c = at_key guesses _ 550 c.in-550.is

pub returns-in-551 : goal.returns-in-551
returns-in-551 c = at_key guesses _ 551 c.in-551.is

pub returns-in-552 : goal.returns-in-552
returns-in-552 c = at_key guesses _ 552 c.in-552.is

pub returns-in-553 : goal.returns-in-553
returns-in-553 c = at_key guesses _ 553 c.in-553.is

pub returns-in-554 : goal.returns-in-554
returns-in-554 c = at_key guesses _ 554 c.in-554.is

pub returns-in-555 : goal.returns-in-555
returns-in-555 c = at_key guesses _ 555 c.in-555.is

pub returns-in-556 : goal.returns-in-556
returns-in-556 c = at_key guesses _ 556 c.in-556.is

pub returns-in-557 : goal.returns-in-557
returns-in-557 c = at_key guesses _ 557 c.in-557.is

pub returns-in-558 : goal.returns-in-558
returns-in-558 c = at_key guesses _ 558 c.in-558.is

pub returns-in-559 : goal.returns-in-559
returns-in-559 c = at_key guesses _ 559 c.in-559.is

pub returns-in-560 : goal.returns-in-560
returns-in-560 c = at_key guesses _ 560 c.in-560.is

pub returns-in-561 : goal.returns-in-561
returns-in-561 c = at_key guesses _ 561 c.in-561.is

pub returns-in-562 : goal.returns-in-562
returns-in-562 c = at_key guesses _ 562 c.in-562.is

pub returns-in-563 : goal.returns-in-563
returns-in-563 c = at_key guesses _ 563 c.in-563.is

pub returns-in-564 : goal.returns-in-564
returns-in-564 c = at_key guesses _ 564 c.in-564.is

pub returns-in-565 : goal.returns-in-565
returns-in-565 c = at_key guesses _ 565 c.in-565.is

pub returns-in-566 : goal.returns-in-566
returns-in-566 c = at_key guesses _ 566 c.in-566.is

pub returns-in-567 : goal.returns-in-567
returns-in-567 c = at_key guesses _ 567 c.in-567.is

pub returns-in-568 : goal.returns-in-568
returns-in-568 c = at_key guesses _ 568 c.in-568.is

pub returns-in-569 : goal.returns-in-569
returns-in-569 c = at_key guesses _ 569 c.in-569.is

pub returns-in-570 : goal.returns-in-570
returns-in-570 c = at_key guesses _ 570 c.in-570.is

pub returns-in-571 : goal.returns-in-571
returns-in-571 c = at_key guesses _ 571 c.in-571.is

pub returns-in-572 : goal.returns-in-572
returns-in-572 c = at_key guesses _ 572 c.in-572.is

pub returns-in-573 : goal.returns-in-573
returns-in-573 c = at_key guesses _ 573 c.in-573.is

pub returns-in-574 : goal.returns-in-574
returns-in-574 c = at_key guesses _ 574 c.in-574.is

pub returns-in-575 : goal.returns-in-575
returns-in-575 c = at_key guesses _ 575 c.in-575.is

pub returns-in-576 : goal.returns-in-576
returns-in-576 c = at_key guesses _ 576 c.in-576.is

pub returns-in-577 : goal.returns-in-577
returns-in-577 c = at_key guesses _ 577 c.in-577.is

pub returns-in-578 : goal.returns-in-578
returns-in-578 c = at_key guesses _ 578 c.in-578.is

pub returns-in-579 : goal.returns-in-579
returns-in-579 c = at_key guesses _ 579 c.in-579.is

pub returns-in-580 : goal.returns-in-580
returns-in-580 c = at_key guesses _ 580 c.in-580.is

pub returns-in-581 : goal.returns-in-581
returns-in-581 c = at_key guesses _ 581 c.in-581.is

pub returns-in-582 : goal.returns-in-582
returns-in-582 c = at_key guesses _ 582 c.in-582.is

pub returns-in-583 : goal.returns-in-583
returns-in-583 c = at_key guesses _ 583 c.in-583.is

pub returns-in-584 : goal.returns-in-584
returns-in-584 c = at_key guesses _ 584 c.in-584.is

pub returns-in-585 : goal.returns-in-585
returns-in-585 c = at_key guesses _ 585 c.in-585.is

pub returns-in-586 : goal.returns-in-586
returns-in-586 c = at_key guesses _ 586 c.in-586.is

pub returns-in-587 : goal.returns-in-587
returns-in-587 c = at_key guesses _ 587 c.in-587.is

pub returns-in-588 : goal.returns-in-588
returns-in-588 c = at_key guesses _ 588 c.in-588.is

pub returns-in-589 : goal.returns-in-589
returns-in-589 c = at_key guesses _ 589 c.in-589.is

pub returns-in-590 : goal.returns-in-590
returns-in-590 c = at_key guesses _ 590 c.in-590.is

pub returns-in-591 : goal.returns-in-591
returns-in-591 c = at_key guesses _ 591 c.in-591.is

pub returns-in-592 : goal.returns-in-592
returns-in-592 c = at_key guesses _ 592 c.in-592.is

pub returns-in-593 : goal.returns-in-593
returns-in-593 c = at_key guesses _ 593 c.in-593.is

pub returns-in-594 : goal.returns-in-594
returns-in-594 c = at_key guesses _ 594 c.in-594.is

pub returns-in-595 : goal.returns-in-595
returns-in-595 c = at_key guesses _ 595 c.in-595.is

pub returns-in-596 : goal.returns-in-596
returns-in-596 c = at_key guesses _ 596 c.in-596.is

pub returns-in-597 : goal.returns-in-597
returns-in-597 c = at_key guesses _ 597 c.in-597.is

pub returns-in-598 : goal.returns-in-598
returns-in-598 c = at_key guesses _ 598 c.in-598.is

pub returns-in-599 : goal.returns-in-599
returns-in-599 c = at_key guesses _ 599 c.in-599.is

pub returns-in-600 : goal.returns-in-600
returns-in-600 c = at_key guesses _ 600 c.in-600.is

pub returns-in-601 : goal.returns-in-601
returns-in-601 c = at_key guesses _ 601 c.in-601.is

pub returns-in-602 : goal.returns-in-602
returns-in-602 c = at_key guesses _ 602 c.in-602.is

pub returns-in-603 : goal.returns-in-603
returns-in-603 c = at_key guesses _ 603 c.in-603.is

pub returns-in-604 : goal.returns-in-604
returns-in-604 c = at_key guesses _ 604 c.in-604.is

pub returns-in-605 : goal.returns-in-605
returns-in-605 c = at_key guesses _ 605 c.in-605.is

pub returns-in-606 : goal.returns-in-606
returns-in-606 c = at_key guesses _ 606 c.in-606.is

pub returns-in-607 : goal.returns-in-607
returns-in-607 c = at_key guesses _ 607 c.in-607.is

pub returns-in-608 : goal.returns-in-608
returns-in-608 c = at_key guesses _ 608 c.in-608.is

pub returns-in-609 : goal.returns-in-609
returns-in-609 c = at_key guesses _ 609 c.in-609.is

pub returns-in-610 : goal.returns-in-610
returns-in-610 c = at_key guesses _ 610 c.in-610.is

pub returns-in-611 : goal.returns-in-611
returns-in-611 c = at_key guesses _ 611 c.in-611.is

pub returns-in-612 : goal.returns-in-612
returns-in-612 c = at_key guesses _ 612 c.in-612.is

pub returns-in-613 : goal.returns-in-613
returns-in-613 c = at_key guesses _ 613 c.in-613.is

pub returns-in-614 : goal.returns-in-614
returns-in-614 c = at_key guesses _ 614 c.in-614.is

pub returns-in-615 : goal.returns-in-615
returns-in-615 c = at_key guesses _ 615 c.in-615.is

pub returns-in-616 : goal.returns-in-616
returns-in-616 c = at_key guesses _ 616 c.in-616.is

pub returns-in-617 : goal.returns-in-617
returns-in-617 c = at_key guesses _ 617 c.in-617.is

pub returns-in-618 : goal.returns-in-618
returns-in-618 c = at_key guesses _ 618 c.in-618.is

pub returns-in-619 : goal.returns-in-619
returns-in-619 c = at_key guesses _ 619 c.in-619.is

pub returns-in-620 : goal.returns-in-620
returns-in-620 c = at_key guesses _ 620 c.in-620.is

pub returns-in-621 : goal.returns-in-621
returns-in-621 c = at_key guesses _ 621 c.in-621.is

pub returns-in-622 : goal.returns-in-622
returns-in-622 c = at_key guesses _ 622 c.in-622.is

pub returns-in-623 : goal.returns-in-623
returns-in-623 c = at_key guesses _ 623 c.in-623.is

pub returns-in-624 : goal.returns-in-624
returns-in-624 c = at_key guesses _ 624 c.in-624.is

pub returns-in-625 : goal.returns-in-625
returns-in-625 c = at_key guesses _ 625 c.in-625.is

pub returns-in-626 : goal.returns-in-626
returns-in-626 c = at_key guesses _ 626 c.in-626.is

pub returns-in-627 : goal.returns-in-627
returns-in-627 c = at_key guesses _ 627 c.in-627.is

pub returns-in-628 : goal.returns-in-628
returns-in-628 c = at_key guesses _ 628 c.in-628.is

pub returns-in-629 : goal.returns-in-629
returns-in-629 c = at_key guesses _ 629 c.in-629.is

pub returns-in-630 : goal.returns-in-630
returns-in-630 c = at_key guesses _ 630 c.in-630.is

pub returns-in-631 : goal.returns-in-631
returns-in-631 c = at_key guesses _ 631 c.in-631.is

pub returns-in-632 : goal.returns-in-632
returns-in-632 c = at_key guesses _ 632 c.in-632.is

pub returns-in-633 : goal.returns-in-633
returns-in-633 c = at_key guesses _ 633 c.in-633.is

pub returns-in-634 : goal.returns-in-634
returns-in-634 c = at_key guesses _ 634 c.in-634.is

pub returns-in-635 : goal.returns-in-635
returns-in-635 c = at_key guesses _ 635 c.in-635.is

pub returns-in-636 : goal.returns-in-636
returns-in-636 c = at_key guesses _ 636 c.in-636.is

pub returns-in-637 : goal.returns-in-637
returns-in-637 c = at_key guesses _ 637 c.in-637.is

pub returns-in-638 : goal.returns-in-638
returns-in-638 c = at_key guesses _ 638 c.in-638.is

pub returns-in-639 : goal.returns-in-639
returns-in-639 c = at_key guesses _ 639 c.in-639.is

pub returns-in-640 : goal.returns-in-640
returns-in-640 c = at_key guesses _ 640 c.in-640.is

pub returns-in-641 : goal.returns-in-641
returns-in-641 c = at_key guesses _ 641 c.in-641.is

pub returns-in-642 : goal.returns-in-642
returns-in-642 c = at_key guesses _ 642 c.in-642.is

pub returns-in-643 : goal.returns-in-643
returns-in-643 c = at_key guesses _ 643 c.in-643.is

pub returns-in-644 : goal.returns-in-644
returns-in-644 c = at_key guesses _ 644 c.in-644.is

pub returns-in-645 : goal.returns-in-645
returns-in-645 c = at_key guesses _ 645 c.in-645.is

pub returns-in-646 : goal.returns-in-646
returns-in-646 c = at_key guesses _ 646 c.in-646.is

pub returns-in-647 : goal.returns-in-647
returns-in-647 c = at_key guesses _ 647 c.in-647.is

pub returns-in-648 : goal.returns-in-648
returns-in-648 c = at_key guesses _ 648 c.in-648.is

pub returns-in-649 : goal.returns-in-649
returns-in-649 c = at_key guesses _ 649 c.in-649.is

pub returns-in-650 : goal.returns-in-650
returns-in-650 c = at_key guesses _ 650 c.in-650.is

pub returns-in-651 : goal.returns-in-651
returns-in-651 c = at_key guesses _ 651 c.in-651.is

pub returns-in-652 : goal.returns-in-652
returns-in-652 c = at_key guesses _ 652 c.in-652.is

pub returns-in-653 : goal.returns-in-653
returns-in-653 c = at_key guesses _ 653 c.in-653.is

pub returns-in-654 : goal.returns-in-654
returns-in-654 c = at_key guesses _ 654 c.in-654.is

pub returns-in-655 : goal.returns-in-655
returns-in-655 c = at_key guesses _ 655 c.in-655.is

pub returns-in-656 : goal.returns-in-656
returns-in-656 c = at_key guesses _ 656 c.in-656.is

pub returns-in-657 : goal.returns-in-657
returns-in-657 c = at_key guesses _ 657 c.in-657.is

pub returns-in-658 : goal.returns-in-658
returns-in-658 c = at_key guesses _ 658 c.in-658.is

pub returns-in-659 : goal.returns-in-659
returns-in-659 c = at_key guesses _ 659 c.in-659.is

pub returns-in-660 : goal.returns-in-660
returns-in-660 c = at_key guesses _ 660 c.in-660.is

pub returns-in-661 : goal.returns-in-661
returns-in-661 c = at_key guesses _ 661 c.in-661.is

pub returns-in-662 : goal.returns-in-662
returns-in-662 c = at_key guesses _ 662 c.in-662.is

pub returns-in-663 : goal.returns-in-663
returns-in-663 c = at_key guesses _ 663 c.in-663.is

pub returns-in-664 : goal.returns-in-664
returns-in-664 c = at_key guesses _ 664 c.in-664.is

pub returns-in-665 : goal.returns-in-665
returns-in-665 c = at_key guesses _ 665 c.in-665.is

pub returns-in-666 : goal.returns-in-666
returns-in-666 c = at_key guesses _ 666 c.in-666.is

pub returns-in-667 : goal.returns-in-667
returns-in-667 c = at_key guesses _ 667 c.in-667.is

pub returns-in-668 : goal.returns-in-668
returns-in-668 c = at_key guesses _ 668 c.in-668.is

pub returns-in-669 : goal.returns-in-669
returns-in-669 c = at_key guesses _ 669 c.in-669.is

pub returns-in-670 : goal.returns-in-670
returns-in-670 c = at_key guesses _ 670 c.in-670.is

pub returns-in-671 : goal.returns-in-671
returns-in-671 c = at_key guesses _ 671 c.in-671.is

pub returns-in-672 : goal.returns-in-672
returns-in-672 c = at_key guesses _ 672 c.in-672.is

pub returns-in-673 : goal.returns-in-673
returns-in-673 c = at_key guesses _ 673 c.in-673.is

pub returns-in-674 : goal.returns-in-674
returns-in-674 c = at_key guesses _ 674 c.in-674.is

pub returns-in-675 : goal.returns-in-675
returns-in-675 c = at_key guesses _ 675 c.in-675.is

pub returns-in-676 : goal.returns-in-676
returns-in-676 c = at_key guesses _ 676 c.in-676.is

pub returns-in-677 : goal.returns-in-677
returns-in-677 c = at_key guesses _ 677 c.in-677.is

pub returns-in-678 : goal.returns-in-678
returns-in-678 c = at_key guesses _ 678 c.in-678.is

pub returns-in-679 : goal.returns-in-679
returns-in-679 c = at_key guesses _ 679 c.in-679.is

pub returns-in-680 : goal.returns-in-680
returns-in-680 c = at_key guesses _ 680 c.in-680.is

pub returns-in-681 : goal.returns-in-681
returns-in-681 c = at_key guesses _ 681 c.in-681.is

pub returns-in-682 : goal.returns-in-682
returns-in-682 c = at_key guesses _ 682 c.in-682.is

pub returns-in-683 : goal.returns-in-683
returns-in-683 c = at_key guesses _ 683 c.in-683.is

pub returns-in-684 : goal.returns-in-684
returns-in-684 c = at_key guesses _ 684 c.in-684.is

pub returns-in-685 : goal.returns-in-685
returns-in-685 c = at_key guesses _ 685 c.in-685.is

pub returns-in-686 : goal.returns-in-686
returns-in-686 c = at_key guesses _ 686 c.in-686.is

pub returns-in-687 : goal.returns-in-687
returns-in-687 c = at_key guesses _ 687 c.in-687.is

pub returns-in-688 : goal.returns-in-688
returns-in-688 c = at_key guesses _ 688 c.in-688.is

pub returns-in-689 : goal.returns-in-689
returns-in-689 c = at_key guesses _ 689 c.in-689.is

pub returns-in-690 : goal.returns-in-690
returns-in-690 c = at_key guesses _ 690 c.in-690.is

pub returns-in-691 : goal.returns-in-691
returns-in-691 c = at_key guesses _ 691 c.in-691.is

pub returns-in-692 : goal.returns-in-692
returns-in-692 c = at_key guesses _ 692 c.in-692.is

pub returns-in-693 : goal.returns-in-693
returns-in-693 c = at_key guesses _ 693 c.in-693.is

pub returns-in-694 : goal.returns-in-694
returns-in-694 c = at_key guesses _ 694 c.in-694.is

pub returns-in-695 : goal.returns-in-695
returns-in-695 c = at_key guesses _ 695 c.in-695.is

pub returns-in-696 : goal.returns-in-696
returns-in-696 c = at_key guesses _ 696 c.in-696.is

pub returns-in-697 : goal.returns-in-697
returns-in-697 c = at_key guesses _ 697 c.in-697.is

pub returns-in-698 : goal.returns-in-698
returns-in-698 c = at_key guesses _ 698 c.in-698.is

pub returns-in-699 : goal.returns-in-699
returns-in-699 c = at_key guesses _ 699 c.in-699.is

pub returns-in-700 : goal.returns-in-700
returns-in-700 c = at_key guesses _ 700 c.in-700.is

pub returns-in-701 : goal.returns-in-701
returns-in-701 c = at_key guesses _ 701 c.in-701.is

pub returns-in-702 : goal.returns-in-702
returns-in-702 c = at_key guesses _ 702 c.in-702.is

pub returns-in-703 : goal.returns-in-703
returns-in-703 c = at_key guesses _ 703 c.in-703.is

pub returns-in-704 : goal.returns-in-704
returns-in-704 c = at_key guesses _ 704 c.in-704.is

pub returns-in-705 : goal.returns-in-705
returns-in-705 c = at_key guesses _ 705 c.in-705.is

pub returns-in-706 : goal.returns-in-706
returns-in-706 c = at_key guesses _ 706 c.in-706.is

pub returns-in-707 : goal.returns-in-707
returns-in-707 c = at_key guesses _ 707 c.in-707.is

pub returns-in-708 : goal.returns-in-708
returns-in-708 c = at_key guesses _ 708 c.in-708.is

pub returns-in-709 : goal.returns-in-709
returns-in-709 c = at_key guesses _ 709 c.in-709.is

pub returns-in-710 : goal.returns-in-710
returns-in-710 c = at_key guesses _ 710 c.in-710.is

pub returns-in-711 : goal.returns-in-711
returns-in-711 c = at_key guesses _ 711 c.in-711.is

pub returns-in-712 : goal.returns-in-712
returns-in-712 c = at_key guesses _ 712 c.in-712.is

pub returns-in-713 : goal.returns-in-713
returns-in-713 c = at_key guesses _ 713 c.in-713.is

pub returns-in-714 : goal.returns-in-714
returns-in-714 c = at_key guesses _ 714 c.in-714.is

pub returns-in-715 : goal.returns-in-715
returns-in-715 c = at_key guesses _ 715 c.in-715.is

pub returns-in-716 : goal.returns-in-716
returns-in-716 c = at_key guesses _ 716 c.in-716.is

pub returns-in-717 : goal.returns-in-717
returns-in-717 c = at_key guesses _ 717 c.in-717.is

pub returns-in-718 : goal.returns-in-718
returns-in-718 c = at_key guesses _ 718 c.in-718.is

pub returns-in-719 : goal.returns-in-719
returns-in-719 c = at_key guesses _ 719 c.in-719.is

pub returns-in-720 : goal.returns-in-720
returns-in-720 c = at_key guesses _ 720 c.in-720.is

pub returns-in-721 : goal.returns-in-721
returns-in-721 c = at_key guesses _ 721 c.in-721.is

pub returns-in-722 : goal.returns-in-722
returns-in-722 c = at_key guesses _ 722 c.in-722.is

pub returns-in-723 : goal.returns-in-723
returns-in-723 c = at_key guesses _ 723 c.in-723.is

pub returns-in-724 : goal.returns-in-724
returns-in-724 c = at_key guesses _ 724 c.in-724.is

pub returns-in-725 : goal.returns-in-725
returns-in-725 c = at_key guesses _ 725 c.in-725.is

pub returns-in-726 : goal.returns-in-726
returns-in-726 c = at_key guesses _ 726 c.in-726.is

pub returns-in-727 : goal.returns-in-727
returns-in-727 c = at_key guesses _ 727 c.in-727.is

pub returns-in-728 : goal.returns-in-728
returns-in-728 c = at_key guesses _ 728 c.in-728.is

pub returns-in-729 : goal.returns-in-729
returns-in-729 c = at_key guesses _ 729 c.in-729.is

pub returns-in-730 : goal.returns-in-730
returns-in-730 c = at_key guesses _ 730 c.in-730.is

pub returns-in-731 : goal.returns-in-731
returns-in-731 c = at_key guesses _ 731 c.in-731.is

pub returns-in-732 : goal.returns-in-732
returns-in-732 c = at_key guesses _ 732 c.in-732.is

pub returns-in-733 : goal.returns-in-733
returns-in-733 c = at_key guesses _ 733 c.in-733.is

pub returns-in-734 : goal.returns-in-734
returns-in-734 c = at_key guesses _ 734 c.in-734.is

pub returns-in-735 : goal.returns-in-735
returns-in-735 c = at_key guesses _ 735 c.in-735.is

pub returns-in-736 : goal.returns-in-736
returns-in-736 c = at_key guesses _ 736 c.in-736.is

pub returns-in-737 : goal.returns-in-737
returns-in-737 c = at_key guesses _ 737 c.in-737.is

pub returns-in-738 : goal.returns-in-738
returns-in-738 c = at_key guesses _ 738 c.in-738.is

pub returns-in-739 : goal.returns-in-739
returns-in-739 c = at_key guesses _ 739 c.in-739.is

pub returns-in-740 : goal.returns-in-740
returns-in-740 c = at_key guesses _ 740 c.in-740.is

pub returns-in-741 : goal.returns-in-741
returns-in-741 c = at_key guesses _ 741 c.in-741.is

pub returns-in-742 : goal.returns-in-742
returns-in-742 c = at_key guesses _ 742 c.in-742.is

pub returns-in-743 : goal.returns-in-743
returns-in-743 c = at_key guesses _ 743 c.in-743.is

pub returns-in-744 : goal.returns-in-744
returns-in-744 c = at_key guesses _ 744 c.in-744.is

pub returns-in-745 : goal.returns-in-745
returns-in-745 c = at_key guesses _ 745 c.in-745.is

pub returns-in-746 : goal.returns-in-746
returns-in-746 c = at_key guesses _ 746 c.in-746.is

pub returns-in-747 : goal.returns-in-747
returns-in-747 c = at_key guesses _ 747 c.in-747.is

pub returns-in-748 : goal.returns-in-748
returns-in-748 c = at_key guesses _ 748 c.in-748.is

pub returns-in-749 : goal.returns-in-749
returns-in-749 c = at_key guesses _ 749 c.in-749.is

pub returns-in-750 : goal.returns-in-750
returns-in-750 c = at_key guesses _ 750 c.in-750.is

pub returns-in-751 : goal.returns-in-751
returns-in-751 c = at_key guesses _ 751 c.in-751.is

pub returns-in-752 : goal.returns-in-752
returns-in-752 c = at_key guesses _ 752 c.in-752.is

pub returns-in-753 : goal.returns-in-753
returns-in-753 c = at_key guesses _ 753 c.in-753.is

pub returns-in-754 : goal.returns-in-754
returns-in-754 c = at_key guesses _ 754 c.in-754.is

pub returns-in-755 : goal.returns-in-755
returns-in-755 c = at_key guesses _ 755 c.in-755.is

pub returns-in-756 : goal.returns-in-756
returns-in-756 c = at_key guesses _ 756 c.in-756.is

pub returns-in-757 : goal.returns-in-757
returns-in-757 c = at_key guesses _ 757 c.in-757.is

pub returns-in-758 : goal.returns-in-758
returns-in-758 c = at_key guesses _ 758 c.in-758.is

pub returns-in-759 : goal.returns-in-759
returns-in-759 c = at_key guesses _ 759 c.in-759.is

pub returns-in-760 : goal.returns-in-760
returns-in-760 c = at_key guesses _ 760 c.in-760.is

pub returns-in-761 : goal.returns-in-761
returns-in-761 c = at_key guesses _ 761 c.in-761.is

pub returns-in-762 : goal.returns-in-762
returns-in-762 c = at_key guesses _ 762 c.in-762.is

pub returns-in-763 : goal.returns-in-763
returns-in-763 c = at_key guesses _ 763 c.in-763.is

pub returns-in-764 : goal.returns-in-764
returns-in-764 c = at_key guesses _ 764 c.in-764.is

pub returns-in-765 : goal.returns-in-765
returns-in-765 c = at_key guesses _ 765 c.in-765.is

pub returns-in-766 : goal.returns-in-766
returns-in-766 c = at_key guesses _ 766 c.in-766.is

pub returns-in-767 : goal.returns-in-767
returns-in-767 c = at_key guesses _ 767 c.in-767.is

pub returns-in-768 : goal.returns-in-768
returns-in-768 c = at_key guesses _ 768 c.in-768.is

pub returns-in-769 : goal.returns-in-769
returns-in-769 c = at_key guesses _ 769 c.in-769.is

pub returns-in-770 : goal.returns-in-770
returns-in-770 c = at_key guesses _ 770 c.in-770.is

pub returns-in-771 : goal.returns-in-771
returns-in-771 c = at_key guesses _ 771 c.in-771.is

pub returns-in-772 : goal.returns-in-772
returns-in-772 c = at_key guesses _ 772 c.in-772.is

pub returns-in-773 : goal.returns-in-773
returns-in-773 c = at_key guesses _ 773 c.in-773.is

pub returns-in-774 : goal.returns-in-774
returns-in-774 c = at_key guesses _ 774 c.in-774.is

pub returns-in-775 : goal.returns-in-775
returns-in-775 c = at_key guesses _ 775 c.in-775.is

pub returns-in-776 : goal.returns-in-776
returns-in-776 c = at_key guesses _ 776 c.in-776.is

pub returns-in-777 : goal.returns-in-777
returns-in-777 c = at_key guesses _ 777 c.in-777.is

pub returns-in-778 : goal.returns-in-778
returns-in-778 c = at_key guesses _ 778 c.in-778.is

pub returns-in-779 : goal.returns-in-779
returns-in-779 c = at_key guesses _ 779 c.in-779.is

pub returns-in-780 : goal.returns-in-780
returns-in-780 c = at_key guesses _ 780 c.in-780.is

pub returns-in-781 : goal.returns-in-781
returns-in-781 c = at_key guesses _ 781 c.in-781.is

pub returns-in-782 : goal.returns-in-782
returns-in-782 c = at_key guesses _ 782 c.in-782.is

pub returns-in-783 : goal.returns-in-783
returns-in-783 c = at_key guesses _ 783 c.in-783.is

pub returns-in-784 : goal.returns-in-784
returns-in-784 c = at_key guesses _ 784 c.in-784.is

pub returns-in-785 : goal.returns-in-785
returns-in-785 c = at_key guesses _ 785 c.in-785.is

pub returns-in-786 : goal.returns-in-786
returns-in-786 c = at_key guesses _ 786 c.in-786.is

pub returns-in-787 : goal.returns-in-787
returns-in-787 c = at_key guesses _ 787 c.in-787.is

pub returns-in-788 : goal.returns-in-788
returns-in-788 c = at_key guesses _ 788 c.in-788.is

pub returns-in-789 : goal.returns-in-789
returns-in-789 c = at_key guesses _ 789 c.in-789.is

pub returns-in-790 : goal.returns-in-790
returns-in-790 c = at_key guesses _ 790 c.in-790.is

pub returns-in-791 : goal.returns-in-791
returns-in-791 c = at_key guesses _ 791 c.in-791.is

pub returns-in-792 : goal.returns-in-792
returns-in-792 c = at_key guesses _ 792 c.in-792.is

pub returns-in-793 : goal.returns-in-793
returns-in-793 c = at_key guesses _ 793 c.in-793.is

pub returns-in-794 : goal.returns-in-794
returns-in-794 c = at_key guesses _ 794 c.in-794.is

pub returns-in-795 : goal.returns-in-795
returns-in-795 c = at_key guesses _ 795 c.in-795.is

pub returns-in-796 : goal.returns-in-796
returns-in-796 c = at_key guesses _ 796 c.in-796.is

pub returns-in-797 : goal.returns-in-797
returns-in-797 c = at_key guesses _ 797 c.in-797.is

pub returns-in-798 : goal.returns-in-798
returns-in-798 c = at_key guesses _ 798 c.in-798.is

pub returns-in-799 : goal.returns-in-799
returns-in-799 c = at_key guesses _ 799 c.in-799.is

pub returns-in-800 : goal.returns-in-800
returns-in-800 c = at_key guesses _ 800 c.in-800.is

pub returns-in-801 : goal.returns-in-801
returns-in-801 c = at_key guesses _ 801 c.in-801.is

pub returns-in-802 : goal.returns-in-802
returns-in-802 c = at_key guesses _ 802 c.in-802.is

pub returns-in-803 : goal.returns-in-803
returns-in-803 c = at_key guesses _ 803 c.in-803.is

pub returns-in-804 : goal.returns-in-804
returns-in-804 c = at_key guesses _ 804 c.in-804.is

pub returns-in-805 : goal.returns-in-805
returns-in-805 c = at_key guesses _ 805 c.in-805.is

pub returns-in-806 : goal.returns-in-806
returns-in-806 c = at_key guesses _ 806 c.in-806.is

pub returns-in-807 : goal.returns-in-807
returns-in-807 c = at_key guesses _ 807 c.in-807.is

pub returns-in-808 : goal.returns-in-808
returns-in-808 c = at_key guesses _ 808 c.in-808.is

pub returns-in-809 : goal.returns-in-809
returns-in-809 c = at_key guesses _ 809 c.in-809.is

pub returns-in-810 : goal.returns-in-810
returns-in-810 c = at_key guesses _ 810 c.in-810.is

pub returns-in-811 : goal.returns-in-811
returns-in-811 c = at_key guesses _ 811 c.in-811.is

pub returns-in-812 : goal.returns-in-812
returns-in-812 c = at_key guesses _ 812 c.in-812.is

pub returns-in-813 : goal.returns-in-813
returns-in-813 c = at_key guesses _ 813 c.in-813.is

pub returns-in-814 : goal.returns-in-814
returns-in-814 c = at_key guesses _ 814 c.in-814.is

pub returns-in-815 : goal.returns-in-815
returns-in-815 c = at_key guesses _ 815 c.in-815.is

pub returns-in-816 : goal.returns-in-816
returns-in-816 c = at_key guesses _ 816 c.in-816.is

pub returns-in-817 : goal.returns-in-817
returns-in-817 c = at_key guesses _ 817 c.in-817.is

pub returns-in-818 : goal.returns-in-818
returns-in-818 c = at_key guesses _ 818 c.in-818.is

pub returns-in-819 : goal.returns-in-819
returns-in-819 c = at_key guesses _ 819 c.in-819.is

pub returns-in-820 : goal.returns-in-820
returns-in-820 c = at_key guesses _ 820 c.in-820.is

pub returns-in-821 : goal.returns-in-821
returns-in-821 c = at_key guesses _ 821 c.in-821.is

pub returns-in-822 : goal.returns-in-822
returns-in-822 c = at_key guesses _ 822 c.in-822.is

pub returns-in-823 : goal.returns-in-823
returns-in-823 c = at_key guesses _ 823 c.in-823.is

pub returns-in-824 : goal.returns-in-824
returns-in-824 c = at_key guesses _ 824 c.in-824.is

pub returns-in-825 : goal.returns-in-825
returns-in-825 c = at_key guesses _ 825 c.in-825.is

pub returns-in-826 : goal.returns-in-826
returns-in-826 c = at_key guesses _ 826 c.in-826.is

pub returns-in-827 : goal.returns-in-827
returns-in-827 c = at_key guesses _ 827 c.in-827.is

pub returns-in-828 : goal.returns-in-828
returns-in-828 c = at_key guesses _ 828 c.in-828.is

pub returns-in-829 : goal.returns-in-829
returns-in-829 c = at_key guesses _ 829 c.in-829.is

pub returns-in-830 : goal.returns-in-830
returns-in-830 c = at_key guesses _ 830 c.in-830.is

pub returns-in-831 : goal.returns-in-831
returns-in-831 c = at_key guesses _ 831 c.in-831.is

pub returns-in-832 : goal.returns-in-832
returns-in-832 c = at_key guesses _ 832 c.in-832.is

pub returns-in-833 : goal.returns-in-833
returns-in-833 c = at_key guesses _ 833 c.in-833.is

pub returns-in-834 : goal.returns-in-834
returns-in-834 c = at_key guesses _ 834 c.in-834.is

pub returns-in-835 : goal.returns-in-835
returns-in-835 c = at_key guesses _ 835 c.in-835.is

pub returns-in-836 : goal.returns-in-836
returns-in-836 c = at_key guesses _ 836 c.in-836.is

pub returns-in-837 : goal.returns-in-837
returns-in-837 c = at_key guesses _ 837 c.in-837.is

pub returns-in-838 : goal.returns-in-838
returns-in-838 c = at_key guesses _ 838 c.in-838.is

pub returns-in-839 : goal.returns-in-839
returns-in-839 c = at_key guesses _ 839 c.in-839.is

pub returns-in-840 : goal.returns-in-840
returns-in-840 c = at_key guesses _ 840 c.in-840.is

pub returns-in-841 : goal.returns-in-841
returns-in-841 c = at_key guesses _ 841 c.in-841.is

pub returns-in-842 : goal.returns-in-842
returns-in-842 c = at_key guesses _ 842 c.in-842.is

pub returns-in-843 : goal.returns-in-843
returns-in-843 c = at_key guesses _ 843 c.in-843.is

pub returns-in-844 : goal.returns-in-844
returns-in-844 c = at_key guesses _ 844 c.in-844.is

pub returns-in-845 : goal.returns-in-845
returns-in-845 c = at_key guesses _ 845 c.in-845.is

pub returns-in-846 : goal.returns-in-846
returns-in-846 c = at_key guesses _ 846 c.in-846.is

pub returns-in-847 : goal.returns-in-847
returns-in-847 c = at_key guesses _ 847 c.in-847.is

pub returns-in-848 : goal.returns-in-848
returns-in-848 c = at_key guesses _ 848 c.in-848.is

pub returns-in-849 : goal.returns-in-849
returns-in-849 c = at_key guesses _ 849 c.in-849.is

pub returns-in-850 : goal.returns-in-850
returns-in-850 c = at_key guesses _ 850 c.in-850.is

pub returns-in-851 : goal.returns-in-851
returns-in-851 c = at_key guesses _ 851 c.in-851.is

pub returns-in-852 : goal.returns-in-852
returns-in-852 c = at_key guesses _ 852 c.in-852.is

pub returns-in-853 : goal.returns-in-853
returns-in-853 c = at_key guesses _ 853 c.in-853.is

pub returns-in-854 : goal.returns-in-854
returns-in-854 c = at_key guesses _ 854 c.in-854.is

pub returns-in-855 : goal.returns-in-855
returns-in-855 c = at_key guesses _ 855 c.in-855.is

pub returns-in-856 : goal.returns-in-856
returns-in-856 c = at_key guesses _ 856 c.in-856.is

pub returns-in-857 : goal.returns-in-857
returns-in-857 c = at_key guesses _ 857 c.in-857.is

pub returns-in-858 : goal.returns-in-858
returns-in-858 c = at_key guesses _ 858 c.in-858.is

pub returns-in-859 : goal.returns-in-859
returns-in-859 c = at_key guesses _ 859 c.in-859.is

pub returns-in-860 : goal.returns-in-860
returns-in-860 c = at_key guesses _ 860 c.in-860.is

pub returns-in-861 : goal.returns-in-861
returns-in-861 c = at_key guesses _ 861 c.in-861.is

pub returns-in-862 : goal.returns-in-862
returns-in-862 c = at_key guesses _ 862 c.in-862.is

pub returns-in-863 : goal.returns-in-863
returns-in-863 c = at_key guesses _ 863 c.in-863.is

pub returns-in-864 : goal.returns-in-864
returns-in-864 c = at_key guesses _ 864 c.in-864.is

pub returns-in-865 : goal.returns-in-865
returns-in-865 c = at_key guesses _ 865 c.in-865.is

pub returns-in-866 : goal.returns-in-866
returns-in-866 c = at_key guesses _ 866 c.in-866.is

pub returns-in-867 : goal.returns-in-867
returns-in-867 c = at_key guesses _ 867 c.in-867.is

pub returns-in-868 : goal.returns-in-868
returns-in-868 c = at_key guesses _ 868 c.in-868.is

pub returns-in-869 : goal.returns-in-869
returns-in-869 c = at_key guesses _ 869 c.in-869.is

pub returns-in-870 : goal.returns-in-870
returns-in-870 c = at_key guesses _ 870 c.in-870.is

pub returns-in-871 : goal.returns-in-871
returns-in-871 c = at_key guesses _ 871 c.in-871.is

pub returns-in-872 : goal.returns-in-872
returns-in-872 c = at_key guesses _ 872 c.in-872.is

pub returns-in-873 : goal.returns-in-873
returns-in-873 c = at_key guesses _ 873 c.in-873.is

pub returns-in-874 : goal.returns-in-874
returns-in-874 c = at_key guesses _ 874 c.in-874.is

pub returns-in-875 : goal.returns-in-875
returns-in-875 c = at_key guesses _ 875 c.in-875.is

pub returns-in-876 : goal.returns-in-876
returns-in-876 c = at_key guesses _ 876 c.in-876.is

pub returns-in-877 : goal.returns-in-877
returns-in-877 c = at_key guesses _ 877 c.in-877.is

pub returns-in-878 : goal.returns-in-878
returns-in-878 c = at_key guesses _ 878 c.in-878.is

pub returns-in-879 : goal.returns-in-879
returns-in-879 c = at_key guesses _ 879 c.in-879.is

pub returns-in-880 : goal.returns-in-880
returns-in-880 c = at_key guesses _ 880 c.in-880.is

pub returns-in-881 : goal.returns-in-881
returns-in-881 c = at_key guesses _ 881 c.in-881.is

pub returns-in-882 : goal.returns-in-882
returns-in-882 c = at_key guesses _ 882 c.in-882.is

pub returns-in-883 : goal.returns-in-883
returns-in-883 c = at_key guesses _ 883 c.in-883.is

pub returns-in-884 : goal.returns-in-884
returns-in-884 c = at_key guesses _ 884 c.in-884.is

pub returns-in-885 : goal.returns-in-885
returns-in-885 c = at_key guesses _ 885 c.in-885.is

pub returns-in-886 : goal.returns-in-886
returns-in-886 c = at_key guesses _ 886 c.in-886.is

pub returns-in-887 : goal.returns-in-887
returns-in-887 c = at_key guesses _ 887 c.in-887.is

pub returns-in-888 : goal.returns-in-888
returns-in-888 c = at_key guesses _ 888 c.in-888.is

pub returns-in-889 : goal.returns-in-889
returns-in-889 c = at_key guesses _ 889 c.in-889.is

pub returns-in-890 : goal.returns-in-890
returns-in-890 c = at_key guesses _ 890 c.in-890.is

pub returns-in-891 : goal.returns-in-891
returns-in-891 c = at_key guesses _ 891 c.in-891.is

pub returns-in-892 : goal.returns-in-892
returns-in-892 c = at_key guesses _ 892 c.in-892.is

pub returns-in-893 : goal.returns-in-893
returns-in-893 c = at_key guesses _ 893 c.in-893.is

pub returns-in-894 : goal.returns-in-894
returns-in-894 c = at_key guesses _ 894 c.in-894.is

pub returns-in-895 : goal.returns-in-895
returns-in-895 c = at_key guesses _ 895 c.in-895.is

pub returns-in-896 : goal.returns-in-896
returns-in-896 c = at_key guesses _ 896 c.in-896.is

pub returns-in-897 : goal.returns-in-897
returns-in-897 c = at_key guesses _ 897 c.in-897.is

pub returns-in-898 : goal.returns-in-898
returns-in-898 c = at_key guesses _ 898 c.in-898.is

pub returns-in-899 : goal.returns-in-899
returns-in-899 c = at_key guesses _ 899 c.in-899.is

pub returns-in-900 : goal.returns-in-900
returns-in-900 c = at_key guesses _ 900 c.in-900.is

pub returns-in-901 : goal.returns-in-901
returns-in-901 c = at_key guesses _ 901 c.in-901.is

pub returns-in-902 : goal.returns-in-902
returns-in-902 c = at_key guesses _ 902 c.in-902.is

pub returns-in-903 : goal.returns-in-903
returns-in-903 c = at_key guesses _ 903 c.in-903.is

pub returns-in-904 : goal.returns-in-904
returns-in-904 c = at_key guesses _ 904 c.in-904.is

pub returns-in-905 : goal.returns-in-905
returns-in-905 c = at_key guesses _ 905 c.in-905.is

pub returns-in-906 : goal.returns-in-906
returns-in-906 c = at_key guesses _ 906 c.in-906.is

pub returns-in-907 : goal.returns-in-907
returns-in-907 c = at_key guesses _ 907 c.in-907.is

pub returns-in-908 : goal.returns-in-908
returns-in-908 c = at_key guesses _ 908 c.in-908.is

pub returns-in-909 : goal.returns-in-909
returns-in-909 c = at_key guesses _ 909 c.in-909.is

pub returns-in-910 : goal.returns-in-910
returns-in-910 c = at_key guesses _ 910 c.in-910.is

pub returns-in-911 : goal.returns-in-911
returns-in-911 c = at_key guesses _ 911 c.in-911.is

pub returns-in-912 : goal.returns-in-912
returns-in-912 c = at_key guesses _ 912 c.in-912.is

pub returns-in-913 : goal.returns-in-913
returns-in-913 c = at_key guesses _ 913 c.in-913.is

pub returns-in-914 : goal.returns-in-914
returns-in-914 c = at_key guesses _ 914 c.in-914.is

pub returns-in-915 : goal.returns-in-915
returns-in-915 c = at_key guesses _ 915 c.in-915.is

pub returns-in-916 : goal.returns-in-916
returns-in-916 c = at_key guesses _ 916 c.in-916.is

pub returns-in-917 : goal.returns-in-917
returns-in-917 c = at_key guesses _ 917 c.in-917.is

pub returns-in-918 : goal.returns-in-918
returns-in-918 c = at_key guesses _ 918 c.in-918.is

pub returns-in-919 : goal.returns-in-919
returns-in-919 c = at_key guesses _ 919 c.in-919.is

pub returns-in-920 : goal.returns-in-920
returns-in-920 c = at_key guesses _ 920 c.in-920.is

pub returns-in-921 : goal.returns-in-921
returns-in-921 c = at_key guesses _ 921 c.in-921.is

pub returns-in-922 : goal.returns-in-922
returns-in-922 c = at_key guesses _ 922 c.in-922.is

pub returns-in-923 : goal.returns-in-923
returns-in-923 c = at_key guesses _ 923 c.in-923.is

pub returns-in-924 : goal.returns-in-924
returns-in-924 c = at_key guesses _ 924 c.in-924.is

pub returns-in-925 : goal.returns-in-925
returns-in-925 c = at_key guesses _ 925 c.in-925.is

pub returns-in-926 : goal.returns-in-926
returns-in-926 c = at_key guesses _ 926 c.in-926.is

pub returns-in-927 : goal.returns-in-927
returns-in-927 c = at_key guesses _ 927 c.in-927.is

pub returns-in-928 : goal.returns-in-928
returns-in-928 c = at_key guesses _ 928 c.in-928.is

pub returns-in-929 : goal.returns-in-929
returns-in-929 c = at_key guesses _ 929 c.in-929.is

pub returns-in-930 : goal.returns-in-930
returns-in-930 c = at_key guesses _ 930 c.in-930.is

pub returns-in-931 : goal.returns-in-931
returns-in-931 c = at_key guesses _ 931 c.in-931.is

pub returns-in-932 : goal.returns-in-932
returns-in-932 c = at_key guesses _ 932 c.in-932.is

pub returns-in-933 : goal.returns-in-933
returns-in-933 c = at_key guesses _ 933 c.in-933.is

pub returns-in-934 : goal.returns-in-934
returns-in-934 c = at_key guesses _ 934 c.in-934.is

pub returns-in-935 : goal.returns-in-935
returns-in-935 c = at_key guesses _ 935 c.in-935.is

pub returns-in-936 : goal.returns-in-936
returns-in-936 c = at_key guesses _ 936 c.in-936.is

pub returns-in-937 : goal.returns-in-937
returns-in-937 c = at_key guesses _ 937 c.in-937.is

pub returns-in-938 : goal.returns-in-938
returns-in-938 c = at_key guesses _ 938 c.in-938.is

pub returns-in-939 : goal.returns-in-939
returns-in-939 c = at_key guesses _ 939 c.in-939.is

pub returns-in-940 : goal.returns-in-940
returns-in-940 c = at_key guesses _ 940 c.in-940.is

pub returns-in-941 : goal.returns-in-941
returns-in-941 c = at_key guesses _ 941 c.in-941.is

pub returns-in-942 : goal.returns-in-942
returns-in-942 c = at_key guesses _ 942 c.in-942.is

pub returns-in-943 : goal.returns-in-943
returns-in-943 c = at_key guesses _ 943 c.in-943.is

pub returns-in-944 : goal.returns-in-944
returns-in-944 c = at_key guesses _ 944 c.in-944.is

pub returns-in-945 : goal.returns-in-945
returns-in-945 c = at_key guesses _ 945 c.in-945.is

pub returns-in-946 : goal.returns-in-946
returns-in-946 c = at_key guesses _ 946 c.in-946.is

pub returns-in-947 : goal.returns-in-947
returns-in-947 c = at_key guesses _ 947 c.in-947.is

pub returns-in-948 : goal.returns-in-948
returns-in-948 c = at_key guesses _ 948 c.in-948.is

pub returns-in-949 : goal.returns-in-949
returns-in-949 c = at_key guesses _ 949 c.in-949.is

pub returns-in-950 : goal.returns-in-950
returns-in-950 c = at_key guesses _ 950 c.in-950.is

pub returns-in-951 : goal.returns-in-951
returns-in-951 c = at_key guesses _ 951 c.in-951.is

pub returns-in-952 : goal.returns-in-952
returns-in-952 c = at_key guesses _ 952 c.in-952.is

pub returns-in-953 : goal.returns-in-953
returns-in-953 c = at_key guesses _ 953 c.in-953.is

pub returns-in-954 : goal.returns-in-954
returns-in-954 c = at_key guesses _ 954 c.in-954.is

pub returns-in-955 : goal.returns-in-955
returns-in-955 c = at_key guesses _ 955 c.in-955.is

pub returns-in-956 : goal.returns-in-956
returns-in-956 c = at_key guesses _ 956 c.in-956.is

pub returns-in-957 : goal.returns-in-957
returns-in-957 c = at_key guesses _ 957 c.in-957.is

pub returns-in-958 : goal.returns-in-958
returns-in-958 c = at_key guesses _ 958 c.in-958.is

pub returns-in-959 : goal.returns-in-959
returns-in-959 c = at_key guesses _ 959 c.in-959.is

pub returns-in-960 : goal.returns-in-960
returns-in-960 c = at_key guesses _ 960 c.in-960.is

pub returns-in-961 : goal.returns-in-961
returns-in-961 c = at_key guesses _ 961 c.in-961.is

pub returns-in-962 : goal.returns-in-962
returns-in-962 c = at_key guesses _ 962 c.in-962.is

pub returns-in-963 : goal.returns-in-963
returns-in-963 c = at_key guesses _ 963 c.in-963.is

pub returns-in-964 : goal.returns-in-964
returns-in-964 c = at_key guesses _ 964 c.in-964.is

pub returns-in-965 : goal.returns-in-965
returns-in-965 c = at_key guesses _ 965 c.in-965.is

pub returns-in-966 : goal.returns-in-966
returns-in-966 c = at_key guesses _ 966 c.in-966.is

pub returns-in-967 : goal.returns-in-967
returns-in-967 c = at_key guesses _ 967 c.in-967.is

pub returns-in-968 : goal.returns-in-968
returns-in-968 c = at_key guesses _ 968 c.in-968.is

pub returns-in-969 : goal.returns-in-969
returns-in-969 c = at_key guesses _ 969 c.in-969.is

pub returns-in-970 : goal.returns-in-970
returns-in-970 c = at_key guesses _ 970 c.in-970.is

pub returns-in-971 : goal.returns-in-971
returns-in-971 c = at_key guesses _ 971 c.in-971.is

pub returns-in-972 : goal.returns-in-972
returns-in-972 c = at_key guesses _ 972 c.in-972.is

pub returns-in-973 : goal.returns-in-973
returns-in-973 c = at_key guesses _ 973 c.in-973.is

pub returns-in-974 : goal.returns-in-974
returns-in-974 c = at_key guesses _ 974 c.in-974.is

pub returns-in-975 : goal.returns-in-975
returns-in-975 c = at_key guesses _ 975 c.in-975.is

pub returns-in-976 : goal.returns-in-976
returns-in-976 c = at_key guesses _ 976 c.in-976.is

pub returns-in-977 : goal.returns-in-977
returns-in-977 c = at_key guesses _ 977 c.in-977.is

pub returns-in-978 : goal.returns-in-978
returns-in-978 c = at_key guesses _ 978 c.in-978.is

pub returns-in-979 : goal.returns-in-979
returns-in-979 c = at_key guesses _ 979 c.in-979.is

pub returns-in-980 : goal.returns-in-980
returns-in-980 c = at_key guesses _ 980 c.in-980.is

pub returns-in-981 : goal.returns-in-981
returns-in-981 c = at_key guesses _ 981 c.in-981.is

pub returns-in-982 : goal.returns-in-982
returns-in-982 c = at_key guesses _ 982 c.in-982.is

pub returns-in-983 : goal.returns-in-983
returns-in-983 c = at_key guesses _ 983 c.in-983.is

pub returns-in-984 : goal.returns-in-984
returns-in-984 c = at_key guesses _ 984 c.in-984.is

pub returns-in-985 : goal.returns-in-985
returns-in-985 c = at_key guesses _ 985 c.in-985.is

pub returns-in-986 : goal.returns-in-986
returns-in-986 c = at_key guesses _ 986 c.in-986.is

pub returns-in-987 : goal.returns-in-987
returns-in-987 c = at_key guesses _ 987 c.in-987.is

pub returns-in-988 : goal.returns-in-988
returns-in-988 c = at_key guesses _ 988 c.in-988.is

pub returns-in-989 : goal.returns-in-989
returns-in-989 c = at_key guesses _ 989 c.in-989.is

pub returns-in-990 : goal.returns-in-990
returns-in-990 c = at_key guesses _ 990 c.in-990.is

pub returns-in-991 : goal.returns-in-991
returns-in-991 c = at_key guesses _ 991 c.in-991.is

pub returns-in-992 : goal.returns-in-992
returns-in-992 c = at_key guesses _ 992 c.in-992.is

pub returns-in-993 : goal.returns-in-993
returns-in-993 c = at_key guesses _ 993 c.in-993.is

pub returns-in-994 : goal.returns-in-994
returns-in-994 c = at_key guesses _ 994 c.in-994.is

pub returns-in-995 : goal.returns-in-995
returns-in-995 c = at_key guesses _ 995 c.in-995.is

pub returns-in-996 : goal.returns-in-996
returns-in-996 c = at_key guesses _ 996 c.in-996.is

pub returns-in-997 : goal.returns-in-997
returns-in-997 c = at_key guesses _ 997 c.in-997.is

pub returns-in-998 : goal.returns-in-998
returns-in-998 c = at_key guesses _ 998 c.in-998.is

pub returns-in-999 : goal.returns-in-999
returns-in-999 c = at_key guesses _ 999 c.in-999.is

pub returns-in-1000 : goal.returns-in-1000
returns-in-1000 c = at_key guesses _ 1000 c.in-1000.is

pub returns-in-1001 : goal.returns-in-1001
returns-in-1001 c = at_key guesses _ 1001 c.in-1001.is

pub returns-in-1002 : goal.returns-in-1002
returns-in-1002 c = at_key guesses _ 1002 c.in-1002.is

pub returns-in-1003 : goal.returns-in-1003
returns-in-1003 c = at_key guesses _ 1003 c.in-1003.is

pub returns-in-1004 : goal.returns-in-1004
returns-in-1004 c = at_key guesses _ 1004 c.in-1004.is

pub returns-in-1005 : goal.returns-in-1005
returns-in-1005 c = at_key guesses _ 1005 c.in-1005.is

pub returns-in-1006 : goal.returns-in-1006
returns-in-1006 c = at_key guesses _ 1006 c.in-1006.is

pub returns-in-1007 : goal.returns-in-1007
returns-in-1007 c = at_key guesses _ 1007 c.in-1007.is

pub returns-in-1008 : goal.returns-in-1008
returns-in-1008 c = at_key guesses _ 1008 c.in-1008.is

pub returns-in-1009 : goal.returns-in-1009
returns-in-1009 c = at_key guesses _ 1009 c.in-1009.is

pub returns-in-1010 : goal.returns-in-1010
returns-in-1010 c = at_key guesses _ 1010 c.in-1010.is

pub returns-in-1011 : goal.returns-in-1011
returns-in-1011 c = at_key guesses _ 1011 c.in-1011.is

pub returns-in-1012 : goal.returns-in-1012
returns-in-1012 c = at_key guesses _ 1012 c.in-1012.is

pub returns-in-1013 : goal.returns-in-1013
returns-in-1013 c = at_key guesses _ 1013 c.in-1013.is

pub returns-in-1014 : goal.returns-in-1014
returns-in-1014 c = at_key guesses _ 1014 c.in-1014.is

pub returns-in-1015 : goal.returns-in-1015
returns-in-1015 c = at_key guesses _ 1015 c.in-1015.is

pub returns-in-1016 : goal.returns-in-1016
returns-in-1016 c = at_key guesses _ 1016 c.in-1016.is

pub returns-in-1017 : goal.returns-in-1017
returns-in-1017 c = at_key guesses _ 1017 c.in-1017.is

pub returns-in-1018 : goal.returns-in-1018
returns-in-1018 c = at_key guesses _ 1018 c.in-1018.is

pub returns-in-1019 : goal.returns-in-1019
returns-in-1019 c = at_key guesses _ 1019 c.in-1019.is

pub returns-in-1020 : goal.returns-in-1020
returns-in-1020 c = at_key guesses _ 1020 c.in-1020.is

pub returns-in-1021 : goal.returns-in-1021
returns-in-1021 c = at_key guesses _ 1021 c.in-1021.is

pub returns-in-1022 : goal.returns-in-1022
returns-in-1022 c = at_key guesses _ 1022 c.in-1022.is

pub returns-in-1023 : goal.returns-in-1023
returns-in-1023 c = at_key guesses _ 1023 c.in-1023.is

pub returns-in_default : goal.returns-in_default
returns-in_default c = past_end guesses _ (past-keys 512 512 c.args.k c.requires c.in_default.in_default-own.rest)
