mod Slips
